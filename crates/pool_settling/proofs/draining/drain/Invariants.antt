use Rattle.std.proofs.Common.{◌≡◌, ◌++◌, true, length}
use Rattle.join_base.specs.Late.{HasCount}
use Rattle.post_ring.specs.Links.{identity_out, sent, received, waiting, has_met}
use Rattle.pool_settling.specs.Standing.{Arrives}
use Rattle.pool_settling.proofs.draining.drain.Given as goal

abbrev pub invariant-messages : goal.invariant-messages
invariant-messages g l = record {
  met : has_met l.second ≡ true;
  identity : identity_out l.second ≡ identity_out l.initial.second;
  all : received l.second ++ waiting l.second ≡ sent l.first;
  known : HasCount l.actor.state.late l.source;
  arrived : Arrives l.source (received l.initial.second) (received l.second) l.initial.actor l.actor;
}

abbrev pub decreases-messages : goal.decreases-messages
decreases-messages g l = length (waiting l.second)
