use Rattle.std.proofs.Common.{◌≡◌, ◌≤◌, ◌+◌, drop}
use Rattle.row_screens.specs.Trial.{free_count}
use Rattle.row_screens.proofs.trial.count_free.Given as goal

abbrev pub invariant-loop-pattern : goal.invariant-loop-pattern
invariant-loop-pattern l = record {
  told : l.count + free_count (drop l.pattern l.slots) ≡ free_count l.slots;
  few : l.count ≤ l.pattern;
}
