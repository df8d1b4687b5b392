use Rattle.std.proofs.Common.{◌≡◌, ℕ, ◌<◌, false, length}
use Rattle.pool_settling.specs.Rounds.{Brings, OutboxHasNone}
use Rattle.pool_settling.proofs.rounds.bring_from.Given as goal

-- the first outboxes were looked into
abbrev pub invariant-loop-target : goal.invariant-loop-target
invariant-loop-target g l = record {
  count : length l.actors.items ≡ length l.initial.actors.items;
  brought : Brings l.found l.initial.actors.items l.actors.items;
  none : l.found ≡ false → (target : ℕ) → target < l.target → OutboxHasNone l.actors.items l.sender target;
}
