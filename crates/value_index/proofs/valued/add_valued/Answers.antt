use Rattle.value_index.proofs.ValuedLemmas.{added_keeps, added_only, is_in}
use Rattle.value_index.proofs.valued.add_valued.Goals as goal

pub returns-clause-has : goal.returns-clause-has
returns-clause-has c = is_in c.args.one c.insert.new.self.keys c.in_ok-insert.ensures.updates.1

pub returns-clause-keeps : goal.returns-clause-keeps
returns-clause-keeps c = added_keeps c.args.one c.args.all.now.keys c.insert.new.self.keys c.in_ok-insert.ensures.updates.0

pub returns-clause-only : goal.returns-clause-only
returns-clause-only c = added_only c.args.one c.args.all.now.keys c.insert.new.self.keys c.in_ok-insert.ensures.updates.0
