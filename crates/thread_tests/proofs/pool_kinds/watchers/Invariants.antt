use Rattle.std.proofs.Common.{◌≡◌, ◌≤◌, length}
use Rattle.thread_tests.proofs.pool_kinds.watchers.Given as goal

abbrev pub invariant-loop : goal.invariant-loop
invariant-loop l = record {
  count : length l.besides.items ≡ l.counter;
  within : l.counter ≤ l.count;
}
