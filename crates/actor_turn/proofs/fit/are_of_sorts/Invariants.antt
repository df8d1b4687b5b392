use Rattle.std.proofs.Common.{◌≡◌, drop, length}
use Rattle.fair_semantics.specs.Step.{are_of_sorts}
use Rattle.actor_turn.proofs.fit.are_of_sorts.Given as goal

abbrev pub invariant-loop-place : goal.invariant-loop-place
invariant-loop-place l = record {
  count : length l.sorts ≡ length l.values;
  left : are_of_sorts (drop l.place l.sorts) (drop l.place l.values) ≡ are_of_sorts l.sorts l.values;
}
