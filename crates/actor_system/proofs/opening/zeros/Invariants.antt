use Rattle.std.proofs.Common.{◌≡◌, map}
use Rattle.actor_system.specs.Opening.{rows_of}
use Rattle.actor_system.proofs.opening.zeros.Given as goal

abbrev pub invariant-loop : goal.invariant-loop
invariant-loop l = map (λ row. row.items) l.places.items ≡ rows_of l.counter l.fn.width
