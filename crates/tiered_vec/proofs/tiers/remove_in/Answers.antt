use Rattle.std.proofs.Common.{◌<◌, length, arith}
use Rattle.tiered_vec.proofs.ShiftLemmas.{shift_end}
use Rattle.tiered_vec.proofs.tiers.remove_in.Goals as goal

pub returns-clause-left : goal.returns-clause-left
returns-clause-left c =
    let inside : c.args.at.block < length c.shift_to-number.new.blocks.items = omega (arith, c.requires.block, c.shift_to-number.ensures.shorter.size) in
    (shift_end _ _ _ _ _ _ _ c.shift_to-number.ensures (omega (arith, c.if-at-eq0.false)) inside c.requires.within c.index_mut-2.ensures.value c.replace.ensures).left

pub returns-clause-shorter : goal.returns-clause-shorter
returns-clause-shorter c =
    let inside : c.args.at.block < length c.shift_to-number.new.blocks.items = omega (arith, c.requires.block, c.shift_to-number.ensures.shorter.size) in
    (shift_end _ _ _ _ _ _ _ c.shift_to-number.ensures (omega (arith, c.if-at-eq0.false)) inside c.requires.within c.index_mut-2.ensures.value c.replace.ensures).shorter
