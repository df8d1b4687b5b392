use Rattle.std.proofs.Common.{◌∙◌, ap, length}
use Rattle.log_posts.proofs.StampsLemmas.{after_many, stamps_next}
use Rattle.log_posts.proofs.stamps.stamps_made.Goals as goal

pub loop-entry-preserved : goal.loop-entry-preserved
loop-entry-preserved c =
    let i = c.loop-entry.invariant in
    let source = c.entry-item.result.source in record {
      told =
          stamps_next c.loop-entry.left.items c.take_carried.new.links.items c.loop-entry.before c.next_stamp-before.result c.take_carried.result c.args.entries.now c.loop-entry.entry-index c.entry-item.result c.loop-entry.stamps c.push.new.self _ c.loop-entry-test.true
          c.entry-item.is c.take_carried.ensures.carried c.next_stamp-before.ensures c.take_carried.ensures.taken c.in_ok-push.ensures.ok i.told;
      many = ap length c.take_carried.ensures.taken ∙ after_many c.loop-entry.left.items source ∙ i.many;
    }
