use Rattle.std.proofs.Common.{take}
use Rattle.std.specs.List.{AllByRecursion}
use Rattle.fair_semantics.specs.Fits.{OperandFits}
use Rattle.actor_turn.proofs.texts.operand_texts.Given as goal

abbrev pub invariant-loop-operand : goal.invariant-loop-operand
invariant-loop-operand l = AllByRecursion OperandFits (take l.operand-index l.operand-items)
