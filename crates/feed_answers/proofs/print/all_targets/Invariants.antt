use Rattle.std.proofs.Common.{◌≡◌, ◌++◌, drop, map}
use Rattle.feed_answers.specs.Answers.{targets_of}
use Rattle.feed_answers.proofs.print.all_targets.Given as goal

abbrev pub invariant-loop-posts : goal.invariant-loop-posts
invariant-loop-posts l = l.targets ++ map targets_of (drop l.posts-index l.posts-items) ≡ map targets_of l.fn.feeds
