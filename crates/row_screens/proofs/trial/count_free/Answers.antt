use Rattle.std.proofs.Common.{◌<◌, length, arith}
use Rattle.row_screens.proofs.FreeLemmas.{free_left, free_most, free_none}
use Rattle.row_screens.proofs.trial.count_free.Goals as goal

pub overflow_add-count : goal.overflow_add-count
overflow_add-count c =
    let inside : c.loop-pattern.pattern < length c.args.slots.now = omega (arith, c.loop-pattern-test.true, c.requires.long) in
    let most = free_most c.args.slots.now c.loop-pattern.pattern c.free_at-count.result inside c.free_at-count.ensures in
    omega (arith, most, c.loop-pattern.invariant.few, c.loop-pattern-test.true, c.requires.few)

pub loop-pattern-preserved : goal.loop-pattern-preserved
loop-pattern-preserved c =
    let inside : c.loop-pattern.pattern < length c.args.slots.now = omega (arith, c.loop-pattern-test.true, c.requires.long) in
    let most = free_most c.args.slots.now c.loop-pattern.pattern c.free_at-count.result inside c.free_at-count.ensures in
    record {
      told = omega (arith, c.loop-pattern.invariant.told, free_left c.args.slots.now c.loop-pattern.pattern c.free_at-count.result inside c.free_at-count.ensures);
      few = omega (arith, most, c.loop-pattern.invariant.few);
    }

pub returns : goal.returns
returns c = omega (arith, c.loop-pattern.invariant.told, free_none c.args.slots.now c.loop-pattern.pattern (omega (arith, c.loop-pattern-test.false, c.requires.long)))
