use Rattle.std.proofs.Common.{◌≡◌, drop}
use Rattle.feed_answers.specs.Queues.{seen, with_effects}
use Rattle.feed_answers.proofs.replies.note_effects.Given as goal

-- what is noted, and the effects that are left
abbrev pub invariant-loop-effect : goal.invariant-loop-effect
invariant-loop-effect l = with_effects (seen l.replies) (drop l.effect-index l.effects) ≡ with_effects (seen l.fn.replies) l.effects
