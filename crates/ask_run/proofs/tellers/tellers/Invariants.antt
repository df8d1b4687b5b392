use Rattle.std.proofs.Common.{◌≡◌, ◌≤◌, All, length}
use Rattle.actor_pool.specs.Beside.{FitsOpening}
use Rattle.ask_run.specs.Tellers.{FitsOn}
use Rattle.ask_run.proofs.tellers.tellers.Given as goal

abbrev pub invariant-loop : goal.invariant-loop
invariant-loop g l = record {
  count : length l.besides.items ≡ l.counter;
  within : l.counter ≤ l.count;
  opening : All (FitsOpening (FitsOn g.K.OneBoard.cells)) l.besides.items;
}
