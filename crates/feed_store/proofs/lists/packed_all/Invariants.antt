use Rattle.std.proofs.Common.{◌≡◌, ◌++◌, drop}
use Rattle.feed_store.proofs.lists.packed_all.Given as goal

abbrev pub invariant-loop-posts : goal.invariant-loop-posts
invariant-loop-posts l = l.feeds ++ drop l.posts-index l.posts-items ≡ l.fn.lists
