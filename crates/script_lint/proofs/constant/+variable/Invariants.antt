use Rattle.std.proofs.Common.{◌≡◌, drop}
use Rattle.guard_eval.specs.Meaning.{has_some, needs_of}
use Rattle.guard_eval.specs.Shape.{atoms_condition}
use Rattle.script_lint.proofs.constant.+variable.Given as goal

-- the atoms that are left decide
abbrev pub invariant-has_variable-loop-atom : goal.invariant-has_variable-loop-atom
invariant-has_variable-loop-atom l = has_some (needs_of (atoms_condition (drop l.atom-index l.atom-items))) ≡ has_some (needs_of (atoms_condition l.atom-items))
