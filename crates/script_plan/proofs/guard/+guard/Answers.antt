use Rattle.std.proofs.Common.{◌∙◌, List, ap, sym, subst, arith}
use Rattle.std.proofs.lemmas.Result.{IfOk-weaker}
use Rattle.guard_eval.specs.Shape.{atom_condition, conjunct_condition}
use Rattle.script_grammar.specs.declared.tree.AtomDecl.{AtomDecl}
use Rattle.script_grammar.specs.Atoms.{compares}
use Rattle.script_grammar.specs.Prefixes.{marks_of}
use Rattle.script_grammar.specs.AtomViews.{atom_view, atoms_view}
use Rattle.script_plan.specs.Marked.{condition_under}
use Rattle.script_plan.specs.PlanOf.{atom_of}
use Rattle.script_plan.specs.Small.{AreSmallAtoms, IsSmallAtom}
use Rattle.script_plan.proofs.GuardLemmas.{atom_is_small, atom_is_smaller, atom_of_under, atom_size, atoms_size, condition_of-more, group_is_small, group_is_smaller, group_translated, small_under}
use Rattle.script_plan.proofs.guard.+guard.Goals as goal

pub atom_of-compare_of-requires : goal.atom_of-compare_of-requires
atom_of-compare_of-requires t c =
    let Small : AtomDecl → Type 0 = λ (atom : AtomDecl). IsSmallAtom (atom_view atom) in
    let small = small_under (marks_of c.in-Compare.prefix) (compares c.in-Compare.left c.in-Compare.relation c.in-Compare.right) (subst Small c.in-Compare.is c.requires.small) in
    record { left = small.0; right = small.1 }

pub atom_of-returns-in_ok-atom-in-Compare : goal.atom_of-returns-in_ok-atom-in-Compare
atom_of-returns-in_ok-atom-in-Compare t c =
    let variables = c.args.variables.now in
    let marks = marks_of c.in-Compare.prefix in
    IfOk-weaker c.with_prefix.result _ _
    (λ whole made. made
    ∙ ap (condition_under marks) c.in_ok-atom-in-Compare.ensures
    ∙ sym (atom_of_under variables marks (compares c.in-Compare.left c.in-Compare.relation c.in-Compare.right))
    ∙ ap (λ (atom : AtomDecl). atom_of variables (atom_view atom)) (sym c.in-Compare.is))
    c.with_prefix.ensures

pub atom_of-condition_of-requires : goal.atom_of-condition_of-requires
atom_of-condition_of-requires t c =
    let Small : AtomDecl → Type 0 = λ (atom : AtomDecl). IsSmallAtom (atom_view atom) in (
      omega (arith, group_is_smaller c.in-Group.prefix c.in-Group.conjunct, ap (λ (a : AtomDecl). atom_size (atom_view a)) c.in-Group.is),
      group_is_small c.in-Group.prefix c.in-Group.conjunct (subst Small c.in-Group.is c.requires.small),
    )

pub atom_of-returns-in_ok-conjunct-in-Group : goal.atom_of-returns-in_ok-conjunct-in-Group
atom_of-returns-in_ok-conjunct-in-Group t c =
    let variables = c.args.variables.now in
    let prefix = c.in-Group.prefix in
    IfOk-weaker c.with_prefix-in-Group.result _ _
    (λ whole made.
    group_translated variables prefix c.in-Group.conjunct (conjunct_condition c.in_ok-conjunct-in-Group.conjunct) (atom_condition whole)
    (made ∙ ap (condition_under (marks_of prefix)) c.group_of.ensures) c.in_ok-conjunct-in-Group.ensures
    ∙ ap (λ (atom : AtomDecl). atom_of variables (atom_view atom)) (sym c.in-Group.is))
    c.with_prefix-in-Group.ensures

pub condition_of-atom_of-requires : goal.condition_of-atom_of-requires
condition_of-atom_of-requires t c =
    let Small : List AtomDecl → Type 0 = λ (as' : List AtomDecl). AreSmallAtoms (atoms_view as') in (
      omega (arith, atom_is_smaller c.deref-decl-items.result.now c.loop-decl.decl-index c.decl-item.result c.loop-decl-test.true c.decl-item.is, ap (λ (as' : List AtomDecl). atoms_size (atoms_view as')) c.deref-decl-items.ensures.value),
      atom_is_small c.deref-decl-items.result.now c.loop-decl.decl-index c.decl-item.result c.loop-decl-test.true c.decl-item.is (subst Small (sym c.deref-decl-items.ensures.value) c.requires.small),
    )

pub condition_of-loop-decl-preserved : goal.condition_of-loop-decl-preserved
condition_of-loop-decl-preserved t c =
    condition_of-more c.args.variables.now c.deref-decl-items.result.now c.loop-decl.decl-index c.decl-item.result (conjunct_condition c.loop-decl.conjunct) (atom_condition c.in_ok-atom.atom) (conjunct_condition c.push.new.self)
    c.loop-decl-test.true c.decl-item.is c.in_ok-push.ensures.ok c.loop-decl.invariant c.in_ok-atom.ensures
