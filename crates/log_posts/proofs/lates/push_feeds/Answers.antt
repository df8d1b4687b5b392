use Rattle.std.proofs.Common.{arith}
use Rattle.log_posts.proofs.LatesLemmas.{feed_next}
use Rattle.log_posts.proofs.lates.push_feeds.Goals as goal

pub loop-feed-preserved : goal.loop-feed-preserved
loop-feed-preserved c =
    let within = c.loop-feed-test.true in record {
      left =
          feed_next c.args.may c.args.read.now c.loop-feed.feed c.args.feeds c.count_where-count.result c.read_count.result c.loop-feed.late c.push_late.new.late _ within c.read_count.ensures c.count_where-count.ensures c.in_ok-push_late.ensures
          c.loop-feed.invariant.left;
      within = omega (arith, within);
    }
