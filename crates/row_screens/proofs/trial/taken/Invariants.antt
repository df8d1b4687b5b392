use Rattle.std.proofs.Common.{◌≡◌, ◌≤◌, length, take}
use Rattle.pattern_core.specs.Choice.{taken_of}
use Rattle.row_screens.proofs.trial.taken.Given as goal

abbrev pub invariant-loop-pattern : goal.invariant-loop-pattern
invariant-loop-pattern l = record {
  found : l.numbers ≡ taken_of (take l.pattern l.slots);
  few : length l.numbers ≤ l.pattern;
}
