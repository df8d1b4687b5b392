use Rattle.script_faults.proofs.PatternLemmas.{noted_again}
use Rattle.script_faults.proofs.pattern.note_bound.Goals as goal

pub returns-clause-found : goal.returns-clause-found
returns-clause-found c =
    noted_again c.args.found.now c.note_if.new.found c.args.variables.now c.args.name.now c.args.slot c.in_ok-is_new.is_new c.in_ok-is_new.ensures.is_new c.note_if.ensures
