use Rattle.std.proofs.Common.{◌≡◌, ◌++◌, drop}
use Rattle.guard_eval.specs.Meaning.{needs_of}
use Rattle.guard_eval.specs.Shape.{atoms_condition}
use Rattle.waiting_reasons.specs.Guards.{places_in}
use Rattle.waiting_reasons.proofs.places.+push.Given as goal

-- what is listed, and the atoms that are left
abbrev pub invariant-push_conjunct-loop-atom : goal.invariant-push_conjunct-loop-atom
invariant-push_conjunct-loop-atom l =
    l.places ++ places_in (needs_of (atoms_condition (drop l.atom-index l.atom-items))) ≡ l.initial.places ++ places_in (needs_of (atoms_condition l.atom-items))
