use Rattle.std.proofs.Common.{◌≡◌, ◌++◌, drop, take}
use Rattle.std.specs.Prelude.{codes}
use Rattle.std.specs.List.{flat_map}
use Rattle.plan_text.specs.PlanText.{pattern_text, patterns_of}
use Rattle.plan_text.proofs.rules.write_patterns.Given as goal

abbrev pub invariant-loop-place : goal.invariant-loop-place
invariant-loop-place l = l.text ≡ l.initial.text ++ flat_map (λ p. codes " & " ++ pattern_text l.plan p) (take l.place (patterns_of l.more (drop 1 l.variables)))
