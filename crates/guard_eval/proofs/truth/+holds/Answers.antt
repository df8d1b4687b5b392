use Rattle.std.proofs.Common.{◌∙◌, List, ap, sym, subst}
use Rattle.std.proofs.Common.{arith}
use Rattle.guard_eval.specs.declared.conjunct.Atom.{Atom}
use Rattle.guard_eval.specs.Condition.{size_of}
use Rattle.guard_eval.specs.Meaning.{Need, is_true, needs_of, operand_needs}
use Rattle.guard_eval.specs.Ready.{AreReady, IsReady}
use Rattle.guard_eval.specs.Shape.{atom_condition, atoms_condition}
use Rattle.guard_eval.proofs.GroupLemmas.{atom_condition-Group}
use Rattle.guard_eval.proofs.ReadyLemmas.{all_right, atom_is_smaller, atoms_have, group_has, group_is_smaller, others_decide}
use Rattle.guard_eval.proofs.truth.+holds.Goals as goal

pub atom_holds-compares-requires-clause-right : goal.atom_holds-compares-requires-clause-right
atom_holds-compares-requires-clause-right t c =
    let Ready : Atom → Type 0 = λ (atom : Atom). AreReady c.args.messages.now c.args.slots.now (needs_of (atom_condition atom)) in
    all_right (λ (n : Need). IsReady c.args.messages.now c.args.slots.now n.0 n.1) (operand_needs c.in-Compare.left) (operand_needs c.in-Compare.right) (subst Ready c.in-Compare.is c.requires.ready)

pub atom_holds-holds-requires : goal.atom_holds-holds-requires
atom_holds-holds-requires t c =
    let Ready : Atom → Type 0 = λ (atom : Atom). AreReady c.args.messages.now c.args.slots.now (needs_of (atom_condition atom)) in
    (omega (arith, group_is_smaller c.in-Group.inner, ap (λ (a : Atom). size_of (atom_condition a)) c.in-Group.is), group_has (λ (n : Need). IsReady c.args.messages.now c.args.slots.now n.0 n.1) c.in-Group.inner (subst Ready c.in-Group.is c.requires.ready))

pub atom_holds-returns-in-Group : goal.atom_holds-returns-in-Group
atom_holds-returns-in-Group t c =
    c.holds.ensures ∙ ap (is_true c.args.messages.now c.args.slots.now) (sym (atom_condition-Group c.in-Group.inner) ∙ ap atom_condition (sym c.in-Group.is))

pub holds-atom_holds-requires : goal.holds-atom_holds-requires
holds-atom_holds-requires t c =
    (omega (arith, atom_is_smaller c.deref-atom-items.result.now c.loop-atom.atom-index c.atom-item.result c.loop-atom-test.true c.atom-item.is, ap (λ (as' : List Atom). size_of (atoms_condition as')) c.deref-atom-items.ensures.value), (atoms_have (λ (n : Need). IsReady c.args.messages.now c.args.slots.now n.0 n.1) c.deref-atom-items.result.now c.loop-atom.atom-index c.atom-item.result c.loop-atom-test.true c.atom-item.is c.loop-atom.invariant.ready).0)

pub holds-loop-atom-preserved : goal.holds-loop-atom-preserved
holds-loop-atom-preserved t c = record {
  ready = (atoms_have (λ (n : Need). IsReady c.args.messages.now c.args.slots.now n.0 n.1) c.deref-atom-items.result.now c.loop-atom.atom-index c.atom-item.result c.loop-atom-test.true c.atom-item.is c.loop-atom.invariant.ready).1;
  told = others_decide c.args.messages.now c.args.slots.now c.deref-atom-items.result.now c.loop-atom.atom-index c.atom-item.result c.loop-atom-test.true c.atom-item.is (sym c.atom_holds.ensures ∙ c.if-atom_holds.false) ∙ c.loop-atom.invariant.told;
}
