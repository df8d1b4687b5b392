use Rattle.std.proofs.Common.{◌≡◌, take}
use Rattle.guard_eval.specs.Shape.{atoms_condition}
use Rattle.guard_eval.proofs.conjunct.+copy.Given as goal

abbrev pub invariant-Conjunct::copy-loop-atom : goal.invariant-Conjunct::copy-loop-atom
invariant-Conjunct::copy-loop-atom l = atoms_condition l.atoms.items ≡ atoms_condition (take l.atom-index l.atom-items)
