use Rattle.std.proofs.Common.{◌≡◌, ◌++◌, drop}
use Rattle.feed_store.proofs.feed.Feed.packed.Given as goal

abbrev pub invariant-loop-post : goal.invariant-loop-post
invariant-loop-post l = l.feed ++ drop l.post-index l.posts ≡ l.posts
