use Rattle.std.proofs.Common.{◌≡◌, drop}
use Rattle.guard_eval.specs.Condition.{size_of}
use Rattle.guard_eval.specs.Meaning.{needs_of}
use Rattle.guard_eval.specs.Ready.{HavePlaces}
use Rattle.guard_eval.specs.Shape.{atom_condition, atoms_condition, conjunct_condition}
use Rattle.guard_eval.specs.Standing.{standing_beside}
use Rattle.guard_eval.proofs.standing.+standing.Given as goal

-- the atoms that are left have places, and decide
abbrev pub invariant-conjunct_standing-loop-atom : goal.invariant-conjunct_standing-loop-atom
invariant-conjunct_standing-loop-atom l = record {
  ready : HavePlaces l.slots (needs_of (atoms_condition (drop l.atom-index l.atom-items)));
  told : standing_beside l.slots l.standing (needs_of (atoms_condition (drop l.atom-index l.atom-items))) ≡ standing_beside l.slots l.fn.before (needs_of (atoms_condition l.atom-items));
}

abbrev pub decreases-atom_standing : goal.decreases-atom_standing
decreases-atom_standing l = size_of (atom_condition l.atom.now)

abbrev pub decreases-conjunct_standing : goal.decreases-conjunct_standing
decreases-conjunct_standing l = size_of (conjunct_condition l.conjunct.now)
