use Rattle.std.proofs.Common.{◌≡◌, take}
use Rattle.script_types.proofs.copy.copy_operands.Given as goal

abbrev pub invariant-loop-operand : goal.invariant-loop-operand
invariant-loop-operand l = l.copied ≡ take l.operand-index l.operand-items
