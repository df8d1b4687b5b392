use Rattle.std.proofs.Common.{◌≡◌, drop}
use Rattle.guard_eval.specs.Condition.{size_of}
use Rattle.guard_eval.specs.Meaning.{needs_of}
use Rattle.guard_eval.specs.Shape.{atom_condition, atoms_condition, conjunct_condition}
use Rattle.row_screens.specs.Ties.{names}
use Rattle.row_screens.proofs.ties.+naming.Given as goal

-- what is left of the atoms decides
abbrev pub invariant-conjunct_names-loop-atom : goal.invariant-conjunct_names-loop-atom
invariant-conjunct_names-loop-atom l = names l.pattern (needs_of (atoms_condition (drop l.atom-index l.atom-items))) ≡ names l.pattern (needs_of (atoms_condition l.atom-items))

abbrev pub decreases-atom_names : goal.decreases-atom_names
decreases-atom_names l = size_of (atom_condition l.atom.now)

abbrev pub decreases-conjunct_names : goal.decreases-conjunct_names
decreases-conjunct_names l = size_of (conjunct_condition l.conjunct.now)
