use Rattle.feed_causes.proofs.ReactionLemmas.{AreFound}
use Rattle.feed_causes.proofs.reaction.reactions_by.Given as goal

abbrev pub invariant-loop-place : goal.invariant-loop-place
invariant-loop-place l = AreFound l.all l.fn.only l.place l.reactions
