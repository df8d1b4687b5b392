use Rattle.std.proofs.Common.{List, sym, subst}
use Rattle.std.specs.List.{AllByRecursion}
use Rattle.script_grammar.specs.Atoms.{Atoms}
use Rattle.script_grammar.specs.AtomViews.{conjunct_view}
use Rattle.script_plan.specs.Small.{AreSmallAtoms}
use Rattle.script_plan.proofs.SmallLemmas.{each_reached_by}
use Rattle.script_plan.proofs.guard.conjuncts_of.Goals as goal

pub condition_of-requires : goal.condition_of-requires
condition_of-requires c =
    let Small : List Atoms → Type 0 = λ guard. AllByRecursion AreSmallAtoms guard in
    record {
      small = each_reached_by AreSmallAtoms conjunct_view c.as_slice-decl-items.result.now c.loop-decl.decl-index c.decl-item.result c.loop-decl-test.true c.decl-item.is (subst Small (sym c.as_slice-decl-items.ensures.same) c.requires);
    }
