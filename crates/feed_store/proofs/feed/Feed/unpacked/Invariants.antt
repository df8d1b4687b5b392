use Rattle.std.proofs.Common.{◌≡◌, ◌++◌, length}
use Rattle.feed_store.proofs.feed.Feed.unpacked.Given as goal

abbrev pub invariant-posts : goal.invariant-posts
invariant-posts l = l.posts.items ++ l.rest ≡ l.self

abbrev pub decreases-posts : goal.decreases-posts
decreases-posts l = length l.rest
