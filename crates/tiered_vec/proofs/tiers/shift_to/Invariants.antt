use Rattle.tiered_vec.specs.Tiers.{IsShifted}
use Rattle.tiered_vec.proofs.tiers.shift_to.Given as goal

abbrev pub invariant-loop-block : goal.invariant-loop-block
invariant-loop-block l = IsShifted l.fn.blocks.items l.blocks.items l.block l.number
