use Rattle.std.proofs.Common.{◌≡◌, ◌+◌, ◌++◌, drop}
use Rattle.feed_answers.specs.Queues.{lines_by}
use Rattle.feed_answers.proofs.print.write_feed.Given as goal

-- what is written, and the lines of the rows that are left
abbrev pub invariant-loop-place : goal.invariant-loop-place
invariant-loop-place l = l.text ++ lines_by l.feed l.queues (l.place + 1) (drop l.place l.targets) ≡ l.fn.text ++ lines_by l.feed l.fn.queues 1 l.targets
