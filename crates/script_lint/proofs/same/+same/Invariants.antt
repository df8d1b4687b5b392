use Rattle.guard_eval.specs.Condition.{size_of}
use Rattle.guard_eval.specs.Shape.{atom_condition, atoms_condition}
use Rattle.script_lint.proofs.same.+same.Given as goal

abbrev pub decreases-is_same_atom : goal.decreases-is_same_atom
decreases-is_same_atom l = size_of (atom_condition l.first.now)

abbrev pub decreases-are_same_atoms : goal.decreases-are_same_atoms
decreases-are_same_atoms l = size_of (atoms_condition l.first.now)
