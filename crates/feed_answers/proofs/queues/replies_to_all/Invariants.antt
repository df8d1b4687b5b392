use Rattle.std.proofs.Common.{◌≡◌, ◌++◌, drop, map}
use Rattle.feed_answers.specs.Queues.{replies_of, seen}
use Rattle.feed_answers.proofs.queues.replies_to_all.Given as goal

abbrev pub invariant-loop-own : goal.invariant-loop-own
invariant-loop-own l = map (λ own. seen own.items) l.replies.items ++ map (λ own. replies_of own.entries) (drop l.own-index l.runs) ≡ map (λ own. replies_of own.entries) l.runs
