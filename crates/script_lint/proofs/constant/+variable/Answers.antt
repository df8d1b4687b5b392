use Rattle.std.proofs.Common.{◌∙◌, ap, sym}
use Rattle.guard_eval.specs.Condition.{Condition}
use Rattle.guard_eval.specs.Meaning.{has_some, needs_of}
use Rattle.guard_eval.specs.Shape.{atom_condition}
use Rattle.guard_eval.proofs.GroupLemmas.{atom_condition-Group}
use Rattle.script_lint.proofs.constant.+variable.Goals as goal

pub atom_has_variable-returns-in-Group : goal.atom_has_variable-returns-in-Group
atom_has_variable-returns-in-Group t c =
    c.has_variable.ensures ∙ ap (λ (x : Condition). has_some (needs_of x)) (sym (atom_condition-Group c.in-Group.inner) ∙ ap atom_condition (sym c.in-Group.is))
