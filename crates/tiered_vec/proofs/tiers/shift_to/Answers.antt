use Rattle.std.proofs.Common.{◌<◌, length, arith}
use Rattle.tiered_vec.proofs.ShiftLemmas.{shift_step}
use Rattle.tiered_vec.proofs.tiers.shift_to.Goals as goal

pub loop-block-preserved : goal.loop-block-preserved
loop-block-preserved c =
    let inside : c.loop-block.block < length c.loop-block.blocks.items = omega (arith, c.loop-block-test.true, c.requires.within, c.loop-block.invariant.shorter.size) in
    shift_step _ _ _ _ _ _ _ c.loop-block.invariant (omega (arith, c.loop-block.auto.block)) inside c.index_mut-in-loop-block.ensures.value c.shift-number.ensures
