use Rattle.std.proofs.Common.{◌≡◌, ◌++◌, take}
use Rattle.std.specs.List.{flat_map}
use Rattle.plan_text.specs.PlanText.{rule_lines}
use Rattle.plan_text.proofs.rules.write_rules.Given as goal

abbrev pub invariant-loop-rule : goal.invariant-loop-rule
invariant-loop-rule l = l.text ≡ l.initial.text ++ flat_map (rule_lines l.plan) (take l.rule-index l.rules)
