use Rattle.std.proofs.Common.{length, arith}
use Rattle.log_replay.proofs.SharedLemmas.{links_next}
use Rattle.log_replay.proofs.settling.links_to.Goals as goal

pub loop-from-preserved : goal.loop-from-preserved
loop-from-preserved c =
    let below = c.loop-from-test.true in record {
      left =
          links_next c.args.made.now c.args.run.now c.args.to c.loop-from.from (length c.args.run.now.actors) c.loop-from.links c.push.new.self _ c.as_slice.result.now c.posts_shown-posts.result (omega (arith, below, c.len.ensures.count))
          c.as_slice.ensures.same c.posts_shown-posts.ensures c.in_ok-push.ensures.ok c.loop-from.invariant.left;
      within = omega (arith, below, c.len.ensures.count);
    }
