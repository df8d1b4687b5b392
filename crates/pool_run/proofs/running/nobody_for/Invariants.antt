use Rattle.std.proofs.Common.{◌≡◌, ◌≤◌, length}
use Rattle.pool_run.proofs.running.nobody_for.Given as goal

abbrev pub invariant-loop : goal.invariant-loop
invariant-loop l = record {
  count : length l.besides.items ≡ l.counter;
  within : l.counter ≤ l.feeds;
}
