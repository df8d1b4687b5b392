use Rattle.std.proofs.Common.{◌≡◌, ◌≤◌, length}
use Rattle.ask_run.proofs.running.queues.Given as goal

abbrev pub invariant-loop : goal.invariant-loop
invariant-loop l = record {
  count : length l.sources.items ≡ l.counter;
  within : l.counter ≤ l.count;
}
