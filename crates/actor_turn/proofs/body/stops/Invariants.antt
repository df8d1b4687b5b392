use Rattle.std.proofs.Common.{◌≡◌, drop}
use Rattle.fair_semantics.specs.Body.{stops}
use Rattle.actor_turn.proofs.body.stops.Given as goal

abbrev pub invariant-loop-statement : goal.invariant-loop-statement
invariant-loop-statement l = stops (drop l.statement-index l.statement-items) ≡ stops l.statement-items
