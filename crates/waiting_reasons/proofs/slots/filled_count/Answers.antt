use Rattle.std.proofs.Common.{arith}
use Rattle.waiting_reasons.proofs.SlotLemmas.{count_further}
use Rattle.waiting_reasons.proofs.slots.filled_count.Goals as goal

pub loop-pattern-preserved : goal.loop-pattern-preserved
loop-pattern-preserved c =
    let before = c.loop-pattern.invariant in
    record {
      told = omega (arith, before.told, count_further c.args.slots.now c.loop-pattern.pattern c.get.result c.get.ensures.place, c.slot_count-count.ensures.count);
      small = omega (arith, before.small, c.slot_count-count.ensures.small);
    }
