use Rattle.guard_eval.proofs.GroupLemmas.{atom_condition-Group}
use Rattle.script_plan.proofs.guard.group_of.Goals as goal

pub returns : goal.returns
returns c = atom_condition-Group c.args.conjunct
