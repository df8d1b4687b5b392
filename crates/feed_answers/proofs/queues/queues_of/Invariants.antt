use Rattle.std.proofs.Common.{◌≡◌, ◌++◌, drop, map}
use Rattle.feed_answers.specs.Queues.{answers_in}
use Rattle.feed_answers.proofs.queues.queues_of.Given as goal

abbrev pub invariant-loop-place : goal.invariant-loop-place
invariant-loop-place l = l.queues.items ++ map (answers_in l.feed) (drop l.place l.runs) ≡ map (answers_in l.feed) l.runs
