use Rattle.std.proofs.Common.{◌≡◌, drop, replicate, length, None}
use Rattle.feed_answers.specs.Answers.{effects_in}
use Rattle.feed_answers.specs.Queues.{seen, with_effects}
use Rattle.feed_answers.proofs.replies.replies_of.Given as goal

-- what is noted, and the effects of the entries that are left
abbrev pub invariant-loop-entry : goal.invariant-loop-entry
invariant-loop-entry l = with_effects (seen l.replies.items) (effects_in (drop l.entry-index l.entries)) ≡ with_effects (replicate (length l.entries) None) (effects_in l.entries)
