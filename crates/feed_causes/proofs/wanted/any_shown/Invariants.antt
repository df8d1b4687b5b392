use Rattle.std.proofs.Common.{◌≡◌, drop}
use Rattle.feed_causes.specs.Reactions.{any_shown}
use Rattle.feed_causes.proofs.wanted.any_shown.Given as goal

abbrev pub invariant-loop-effect : goal.invariant-loop-effect
invariant-loop-effect l = any_shown (drop l.effect-index l.effects) ≡ any_shown l.effects
