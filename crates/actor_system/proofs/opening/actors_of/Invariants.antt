use Rattle.std.proofs.Common.{◌≡◌}
use Rattle.actor_system.specs.Opening.{RulesInRange, new_actors}
use Rattle.actor_system.proofs.opening.actors_of.Given as goal

-- the first actors, and their rules in range
pub record Begun (l : goal.Live-loop-index) : Type 0 where
  pub actors : l.actors.items ≡ new_actors l.fn.plan l.fn.limits l.fn.feeds l.index
  pub rules : RulesInRange l.fn.plan l.fn.limits l.index

abbrev pub invariant-loop-index : goal.invariant-loop-index
invariant-loop-index l = Begun l
