-- Conjuncts of more than one atom.
use Rattle.std.proofs.Common.{◌≡◌, ◌<◌, List, [], ◌∷◌, length, refl, arith}
use Rattle.std.specs.Prelude.{Option, None}
use Rattle.guard_eval.specs.Condition.{Condition}
use Rattle.guard_eval.specs.Shape.{atoms_condition}
use Rattle.guard_eval.specs.declared.conjunct.Atom.{Atom}
use Rattle.tied_patterns.specs.Equalities.{equality_before}

-- an atom with others behind it is no equality
pub none_before : (atom : Condition) (others : List Atom) → 0 < length others → equality_before atom (atoms_condition others) ≡ None
none_before atom [] some = absurd (omega arith)
none_before atom (other ∷ others) some = refl
