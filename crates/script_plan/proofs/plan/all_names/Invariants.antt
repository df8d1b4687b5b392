use Rattle.std.proofs.Common.{◌≡◌, map, take}
use Rattle.script_plan.specs.PlanOf.{names_in}
use Rattle.script_plan.proofs.plan.all_names.Given as goal

abbrev pub invariant-loop-pattern : goal.invariant-loop-pattern
invariant-loop-pattern l = l.all ≡ map names_in (take l.pattern-index l.patterns)
