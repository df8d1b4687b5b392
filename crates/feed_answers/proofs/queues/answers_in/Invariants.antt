use Rattle.std.proofs.Common.{◌≡◌, ◌++◌, drop, map}
use Rattle.join_base.specs.declared.message.Source.TheVariants.{Feed}
use Rattle.feed_answers.specs.Answers.{arrivals_from, reply_in}
use Rattle.feed_answers.specs.Queues.{answers_in, seen}
use Rattle.feed_answers.proofs.queues.answers_in.Given as goal

-- the answers so far, and those of the entries that are left
abbrev pub invariant-loop-place : goal.invariant-loop-place
invariant-loop-place l = seen l.answers.items ++ map (reply_in l.own.entries) (arrivals_from (Feed l.feed) (drop l.place l.own.entries)) ≡ answers_in l.feed l.own
