use Rattle.std.proofs.Common.{◌<◌, length}
use Rattle.actor_turn.specs.Held.{posts_for}
use Rattle.actor_cells.specs.Steps.{AreSmall, Moves}
use Rattle.actor_cells.proofs.sending.send_over.Given as goal

abbrev pub invariant-loop-post : goal.invariant-loop-post
invariant-loop-post l = record {
  exists : l.target < length l.actor.outbox;
  small : AreSmall (posts_for l.actor.outbox l.target);
  moves : Moves l.target l.initial.actor l.actor l.initial.link l.link;
}

abbrev pub decreases-loop-post : goal.decreases-loop-post
decreases-loop-post l = length (posts_for l.actor.outbox l.target)
