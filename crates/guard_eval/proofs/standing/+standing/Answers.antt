use Rattle.std.proofs.Common.{◌∙◌, ◌<◌, ◌+◌, ℕ, List, ap, sym, subst, drop, length, arith}
use Rattle.guard_eval.specs.declared.conjunct.Atom.{Atom}
use Rattle.guard_eval.specs.declared.standing.Standing.{Standing}
use Rattle.guard_eval.specs.Condition.{Condition, size_of}
use Rattle.guard_eval.specs.Meaning.{Need, needs_of, operand_needs}
use Rattle.guard_eval.specs.Ready.{HavePlaces}
use Rattle.guard_eval.specs.Shape.{atom_condition, atoms_condition}
use Rattle.guard_eval.specs.Standing.{standing_beside}
use Rattle.guard_eval.proofs.GroupLemmas.{atom_condition-Group}
use Rattle.guard_eval.proofs.ReadyLemmas.{all_right, atom_is_smaller, atoms_have, group_has, group_is_smaller}
use Rattle.guard_eval.proofs.StandingLemmas.{standing_beside-atoms}
use Rattle.guard_eval.proofs.standing.+standing.Goals as goal

pub atom_standing-operand_standing-requires : goal.atom_standing-operand_standing-requires
atom_standing-operand_standing-requires t c =
    let Has : Atom → Type 0 = λ (atom : Atom). HavePlaces c.args.slots.now (needs_of (atom_condition atom)) in
    all_right (λ (n : Need). n.0.pattern < length c.args.slots.now) (operand_needs c.in-Compare.left) (operand_needs c.in-Compare.right) (subst Has c.in-Compare.is c.requires)

pub atom_standing-conjunct_standing-requires : goal.atom_standing-conjunct_standing-requires
atom_standing-conjunct_standing-requires t c =
    let Has : Atom → Type 0 = λ (atom : Atom). HavePlaces c.args.slots.now (needs_of (atom_condition atom)) in
    (omega (arith, group_is_smaller c.in-Group.inner, ap (λ (a : Atom). size_of (atom_condition a)) c.in-Group.is), group_has (λ (n : Need). n.0.pattern < length c.args.slots.now) c.in-Group.inner (subst Has c.in-Group.is c.requires))

pub atom_standing-returns-in-Group : goal.atom_standing-returns-in-Group
atom_standing-returns-in-Group t c =
    c.conjunct_standing.ensures
    ∙ ap (λ (x : Condition). standing_beside c.args.slots.now c.args.before (needs_of x)) (sym (atom_condition-Group c.in-Group.inner) ∙ ap atom_condition (sym c.in-Group.is))

pub conjunct_standing-atom_standing-standing-requires : goal.conjunct_standing-atom_standing-standing-requires
conjunct_standing-atom_standing-standing-requires t c =
    (omega (arith, atom_is_smaller c.deref-atom-items.result.now c.loop-atom.atom-index c.atom-item.result c.loop-atom-test.true c.atom-item.is, ap (λ (as' : List Atom). size_of (atoms_condition as')) c.deref-atom-items.ensures.value), (atoms_have (λ (n : Need). n.0.pattern < length c.args.slots.now) c.deref-atom-items.result.now c.loop-atom.atom-index c.atom-item.result c.loop-atom-test.true c.atom-item.is c.loop-atom.invariant.ready).0)

pub conjunct_standing-loop-atom-preserved : goal.conjunct_standing-loop-atom-preserved
conjunct_standing-loop-atom-preserved t c =
    let slots = c.args.slots.now in
    let atoms = c.deref-atom-items.result.now in
    let i : ℕ = c.loop-atom.atom-index in
    record {
      ready = (atoms_have (λ (n : Need). n.0.pattern < length slots) atoms i c.atom-item.result c.loop-atom-test.true c.atom-item.is c.loop-atom.invariant.ready).1;
      told = ap (λ (s : Standing). standing_beside slots s (needs_of (atoms_condition (drop (i + 1) atoms)))) c.atom_standing-standing.ensures
          ∙ sym (standing_beside-atoms slots c.loop-atom.standing atoms i c.atom-item.result c.loop-atom-test.true c.atom-item.is)
          ∙ c.loop-atom.invariant.told;
    }
