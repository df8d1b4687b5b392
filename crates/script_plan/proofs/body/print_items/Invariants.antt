use Rattle.std.proofs.Common.{◌≡◌, map, take}
use Rattle.script_plan.specs.PlanOf.{print_item}
use Rattle.script_plan.proofs.body.print_items.Given as goal

abbrev pub invariant-loop-decl : goal.invariant-loop-decl
invariant-loop-decl l = l.items ≡ map (print_item l.variables) (take l.decl-index l.decls)
