use Rattle.std.proofs.Common.{◌≡◌, ℕ, ◌<◌, false, length}
use Rattle.pool_settling.specs.Rounds.{Brings, OutboxIsEmpty}
use Rattle.pool_settling.proofs.rounds.bring_round.Given as goal

-- the outboxes of the first actors were looked into
abbrev pub invariant-loop-sender : goal.invariant-loop-sender
invariant-loop-sender g l = record {
  count : length l.actors.items ≡ length l.initial.actors.items;
  brought : Brings l.found l.initial.actors.items l.actors.items;
  none : l.found ≡ false → (sender : ℕ) → sender < l.sender → OutboxIsEmpty l.actors.items sender;
}
