use Rattle.std.proofs.Common.{◌≡◌, ◌++◌, take}
use Rattle.std.specs.Prelude.{codes}
use Rattle.std.specs.List.{flat_map}
use Rattle.plan_text.specs.PlanText.{item_text}
use Rattle.plan_text.proofs.statements.write_items.Given as goal

abbrev pub invariant-loop-item : goal.invariant-loop-item
invariant-loop-item l = l.text ≡ l.initial.text ++ flat_map (λ x. codes " " ++ item_text l.variables x) (take l.item-index l.more)
