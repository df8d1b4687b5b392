use Rattle.std.proofs.Common.{◌≡◌, ◌++◌, length}
use Rattle.feed_answers.specs.Answers.{targets_of}
use Rattle.feed_answers.proofs.print.targets_of.Given as goal

abbrev pub invariant-loop-target : goal.invariant-loop-target
invariant-loop-target l = l.targets ++ targets_of l.rest ≡ targets_of l.fn.posts

abbrev pub decreases-loop-target : goal.decreases-loop-target
decreases-loop-target l = length l.rest
