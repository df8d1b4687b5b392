use Rattle.std.proofs.Common.{◌∙◌, List, ap, sym, arith}
use Rattle.guard_eval.specs.declared.conjunct.Atom.{Atom}
use Rattle.guard_eval.specs.Condition.{Condition, size_of}
use Rattle.guard_eval.specs.Meaning.{needs_of}
use Rattle.guard_eval.specs.Shape.{atom_condition, atoms_condition}
use Rattle.guard_eval.proofs.GroupLemmas.{atom_condition-Group}
use Rattle.guard_eval.proofs.ReadyLemmas.{atom_is_smaller, group_is_smaller}
use Rattle.row_screens.specs.Ties.{names}
use Rattle.row_screens.proofs.TieLemmas.{first_names, others_name}
use Rattle.row_screens.proofs.ties.+naming.Goals as goal

pub atom_names-conjunct_names-requires : goal.atom_names-conjunct_names-requires
atom_names-conjunct_names-requires t c = omega (arith, group_is_smaller c.in-Group.inner, ap (λ (a : Atom). size_of (atom_condition a)) c.in-Group.is)

pub atom_names-returns-in-Group : goal.atom_names-returns-in-Group
atom_names-returns-in-Group t c =
    c.conjunct_names.ensures
    ∙ ap (λ (x : Condition). names c.args.pattern (needs_of x)) (sym (atom_condition-Group c.in-Group.inner) ∙ ap atom_condition (sym c.in-Group.is))

pub conjunct_names-atom_names-requires : goal.conjunct_names-atom_names-requires
conjunct_names-atom_names-requires t c =
    omega (arith, atom_is_smaller c.deref-atom-items.result.now c.loop-atom.atom-index c.atom-item.result c.loop-atom-test.true c.atom-item.is, ap (λ (as' : List Atom). size_of (atoms_condition as')) c.deref-atom-items.ensures.value)

pub conjunct_names-loop-atom-preserved : goal.conjunct_names-loop-atom-preserved
conjunct_names-loop-atom-preserved t c =
    others_name c.args.pattern c.deref-atom-items.result.now c.loop-atom.atom-index c.atom-item.result c.loop-atom-test.true c.atom-item.is (sym c.atom_names.ensures ∙ c.if-atom_names.false) ∙ c.loop-atom.invariant

pub conjunct_names-returns-then-atom_names : goal.conjunct_names-returns-then-atom_names
conjunct_names-returns-then-atom_names t c =
    sym (sym c.loop-atom.invariant ∙ first_names c.args.pattern c.deref-atom-items.result.now c.loop-atom.atom-index c.atom-item.result c.loop-atom-test.true c.atom-item.is (sym c.atom_names.ensures ∙ c.if-atom_names.true))
    ∙ ap (λ (as' : List Atom). names c.args.pattern (needs_of (atoms_condition as'))) c.deref-atom-items.ensures.value
