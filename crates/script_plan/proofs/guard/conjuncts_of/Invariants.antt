use Rattle.std.proofs.Common.{◌≡◌, map, take}
use Rattle.script_grammar.specs.AtomViews.{conjunct_view}
use Rattle.script_plan.specs.PlanOf.{condition_of}
use Rattle.script_plan.proofs.guard.conjuncts_of.Given as goal

abbrev pub invariant-loop-decl : goal.invariant-loop-decl
invariant-loop-decl l = l.conjuncts ≡ map (condition_of l.variables) (map conjunct_view (take l.decl-index l.decl-items))
