use Rattle.std.proofs.Common.{◌≡◌, take}
use Rattle.script_plan.specs.PlanOf.{term_of}
use Rattle.script_plan.proofs.term.leaves_of.Given as goal

abbrev pub invariant-loop-decl : goal.invariant-loop-decl
invariant-loop-decl l = l.leaves ≡ term_of l.variables (take l.decl-index l.decls)
