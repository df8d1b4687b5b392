use Rattle.std.proofs.Common.{◌≡◌, map, take}
use Rattle.script_plan.specs.PlanOf.{operand_of}
use Rattle.script_plan.proofs.body.operands_of.Given as goal

abbrev pub invariant-loop-decl : goal.invariant-loop-decl
invariant-loop-decl l = l.operands ≡ map (operand_of l.variables) (take l.decl-index l.decls)
