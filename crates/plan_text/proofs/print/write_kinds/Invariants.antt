use Rattle.std.proofs.Common.{◌≡◌, ◌++◌, take}
use Rattle.std.specs.List.{flat_map}
use Rattle.plan_text.specs.PlanText.{kind_line}
use Rattle.plan_text.proofs.print.write_kinds.Given as goal

abbrev pub invariant-loop-kind : goal.invariant-loop-kind
invariant-loop-kind l = l.text ≡ l.initial.text ++ flat_map kind_line (take l.kind-index l.kinds)
