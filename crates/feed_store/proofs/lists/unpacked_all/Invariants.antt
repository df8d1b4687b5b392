use Rattle.std.proofs.Common.{◌≡◌, ◌++◌, drop}
use Rattle.feed_store.proofs.lists.unpacked_all.Given as goal

abbrev pub invariant-loop-feed : goal.invariant-loop-feed
invariant-loop-feed l = l.lists ++ drop l.feed-index l.feed-items ≡ l.fn.feeds
