use Rattle.std.proofs.Common.{◌≡◌, drop}
use Rattle.guard_eval.specs.Condition.{size_of}
use Rattle.guard_eval.specs.Meaning.{is_true, needs_of}
use Rattle.guard_eval.specs.Ready.{AreReady}
use Rattle.guard_eval.specs.Shape.{atom_condition, atoms_condition, conjunct_condition}
use Rattle.guard_eval.proofs.truth.+holds.Given as goal

-- the atoms that are left are ready, and decide
abbrev pub invariant-holds-loop-atom : goal.invariant-holds-loop-atom
invariant-holds-loop-atom l = record {
  ready : AreReady l.messages l.slots (needs_of (atoms_condition (drop l.atom-index l.atom-items)));
  told : is_true l.messages l.slots (atoms_condition (drop l.atom-index l.atom-items)) ≡ is_true l.messages l.slots (atoms_condition l.atom-items);
}

abbrev pub decreases-atom_holds : goal.decreases-atom_holds
decreases-atom_holds l = size_of (atom_condition l.atom.now)

abbrev pub decreases-holds : goal.decreases-holds
decreases-holds l = size_of (conjunct_condition l.conjunct.now)
