use Rattle.value_index.proofs.ValuedLemmas.{removed_adds_none, removed_gone, removed_keeps}
use Rattle.value_index.proofs.valued.remove_valued.Goals as goal

pub returns : goal.returns
returns c = record {
  keeps = removed_keeps c.args.one c.args.all.now.keys c.remove.new.self.keys c.remove.ensures.updates.0;
  adds_none = removed_adds_none c.args.one c.args.all.now.keys c.remove.new.self.keys c.remove.ensures.updates.0;
  gone = removed_gone c.args.one c.args.all.now.keys c.remove.new.self.keys c.remove.ensures.updates.0;
}
