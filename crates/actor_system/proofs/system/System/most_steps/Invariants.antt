use Rattle.std.proofs.Common.{◌≡◌, ◌*◌, ◌^◌, ◌≤◌, take, length}
use Rattle.std.specs.List.{sum_by}
use Rattle.actor_system.proofs.system.System.most_steps.Given as goal

-- the posts of the first feeds
abbrev pub invariant-loop-feed : goal.invariant-loop-feed
invariant-loop-feed l = record {
  posts : l.posts ≡ sum_by length (take l.feed l.fn.self.feeds);
  few : l.posts ≤ 2 ^ 64 * l.feed;
}
