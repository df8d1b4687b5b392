use Rattle.std.proofs.Common.{◌≡◌, ◌+◌, ◌-◌, ◌≤◌, ◌++◌}
use Rattle.join_base.specs.Late.{late_list}
use Rattle.join_base.specs.declared.message.Source.TheVariants.{Feed}
use Rattle.log_posts.specs.Lates.{feed_counts}
use Rattle.log_posts.proofs.lates.push_feeds.Given as goal

abbrev pub invariant-loop-feed : goal.invariant-loop-feed
invariant-loop-feed l = record {
  left : l.late ++ late_list (λ k. Feed k) l.feed (feed_counts l.fn.may l.read l.feed (l.fn.feeds + 1 - l.feed)) ≡ l.initial.late ++ late_list (λ k. Feed k) 1 (feed_counts l.fn.may l.read 1 l.fn.feeds);
  within : l.feed ≤ l.fn.feeds + 1;
}

abbrev pub decreases-loop-feed : goal.decreases-loop-feed
decreases-loop-feed l = l.fn.feeds + 1 - l.feed
