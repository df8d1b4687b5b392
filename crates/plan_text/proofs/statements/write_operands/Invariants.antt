use Rattle.std.proofs.Common.{◌≡◌, ◌++◌, take}
use Rattle.std.specs.Prelude.{codes}
use Rattle.std.specs.List.{flat_map}
use Rattle.plan_text.specs.GuardText.{operand_text}
use Rattle.plan_text.proofs.statements.write_operands.Given as goal

abbrev pub invariant-loop-operand : goal.invariant-loop-operand
invariant-loop-operand l = l.text ≡ l.initial.text ++ flat_map (λ o. codes ", " ++ operand_text l.variables o) (take l.operand-index l.more)
