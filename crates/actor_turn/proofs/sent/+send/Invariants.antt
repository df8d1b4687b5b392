use Rattle.std.proofs.Common.{length}
use Rattle.actor_turn.proofs.sent.+send.Given as goal

abbrev pub decreases-send : goal.decreases-send
decreases-send l = length l.effects.now
