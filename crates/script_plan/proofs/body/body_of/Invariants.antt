use Rattle.std.proofs.Common.{◌≡◌, map, take}
use Rattle.script_plan.specs.PlanOf.{statement_of}
use Rattle.script_plan.specs.Planned.{outline_tree}
use Rattle.script_plan.proofs.body.body_of.Given as goal

abbrev pub invariant-loop-decl : goal.invariant-loop-decl
invariant-loop-decl l = l.body ≡ map (statement_of (outline_tree l.script.outline.now) l.variables) (take l.decl-index l.decls)
