use Rattle.std.proofs.Common.{◌≡◌, map, take}
use Rattle.script_plan.specs.PlanOf.{pattern_of}
use Rattle.script_plan.specs.Planned.{outline_tree}
use Rattle.script_plan.proofs.plan.patterns_of.Given as goal

abbrev pub invariant-loop-decl : goal.invariant-loop-decl
invariant-loop-decl l = l.patterns ≡ map (pattern_of (outline_tree l.script.outline.now)) (take l.decl-index l.decls)
