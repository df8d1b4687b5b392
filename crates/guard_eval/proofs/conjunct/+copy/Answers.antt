use Rattle.std.proofs.Common.{ap, sym, ◌∙◌}
use Rattle.guard_eval.specs.Condition.{Grouped}
use Rattle.guard_eval.specs.Shape.{atom_condition, atoms_condition}
use Rattle.guard_eval.proofs.Atoms.{atoms_condition-copied}
use Rattle.guard_eval.proofs.GroupLemmas.{atom_condition-Group}
use Rattle.guard_eval.proofs.conjunct.+copy.Goals as goal

pub Atom::copy-returns-in_ok-copy-in-Group : goal.Atom::copy-returns-in_ok-copy-in-Group
Atom::copy-returns-in_ok-copy-in-Group t c = record {
  equal = atom_condition-Group c.in_ok-copy-in-Group.field-0
      ∙ ap Grouped c.in_ok-copy-in-Group.ensures.equal
      ∙ (sym (atom_condition-Group c.in-Group.inner) ∙ ap atom_condition (sym c.in-Group.is));
}

pub Conjunct::copy-loop-atom-preserved : goal.Conjunct::copy-loop-atom-preserved
Conjunct::copy-loop-atom-preserved t c =
    ap atoms_condition c.in_ok-push.ensures.items
    ∙ atoms_condition-copied c.loop-atom.atoms.items c.deref-atom-items.result.now c.loop-atom.atom-index c.in_ok-copied.copied c.atom-item.result c.loop-atom-test.true c.atom-item.is c.loop-atom.invariant c.in_ok-copied.ensures.equal
