use Rattle.std.proofs.Common.{arith}
use Rattle.tiered_vec.proofs.ConcatLemmas.{count_within}
use Rattle.tiered_vec.proofs.FullLemmas.{counted_behind}
use Rattle.tiered_vec.proofs.tiers.numbers_before.Goals as goal

pub overflow_mul-result : goal.overflow_mul-result
overflow_mul-result c =
    let e = counted_behind _ _ _ _ c.requires.tiered c.requires.block c.if-block-eq0.false c.index.ensures c.len.ensures in
    omega (arith, e, count_within c.args.blocks.now.items c.args.block c.requires.block, c.requires.few)

pub overflow_add-result : goal.overflow_add-result
overflow_add-result c =
    let e = counted_behind _ _ _ _ c.requires.tiered c.requires.block c.if-block-eq0.false c.index.ensures c.len.ensures in
    omega (arith, e, count_within c.args.blocks.now.items c.args.block c.requires.block, c.requires.few)

pub returns : goal.returns
returns c = counted_behind _ _ _ _ c.requires.tiered c.requires.block c.if-block-eq0.false c.index.ensures c.len.ensures
