use Rattle.std.proofs.Common.{◌≡◌, ◌≤◌, length}
use Rattle.watch_run.proofs.crew.publishing_workers.Given as goal

abbrev pub invariant-loop : goal.invariant-loop
invariant-loop g l = record {
  count : length l.workers.items ≡ l.counter;
  within : l.counter ≤ l.count;
}
