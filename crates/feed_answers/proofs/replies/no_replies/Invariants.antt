use Rattle.std.proofs.Common.{◌≡◌, replicate, None}
use Rattle.feed_answers.specs.Queues.{seen}
use Rattle.feed_answers.proofs.replies.no_replies.Given as goal

abbrev pub invariant-loop : goal.invariant-loop
invariant-loop l = seen l.replies.items ≡ replicate l.counter None
