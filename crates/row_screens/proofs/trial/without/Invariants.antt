use Rattle.std.proofs.Common.{◌≡◌, ◌≤◌, length, take, not, ◌==◌}
use Rattle.std.specs.List.{filter}
use Rattle.row_screens.proofs.trial.without.Given as goal

abbrev pub invariant-loop-pattern : goal.invariant-loop-pattern
invariant-loop-pattern l = record {
  found : l.others ≡ filter (λ p. not (p == l.left_out)) (take l.pattern-index l.pattern-items);
  few : length l.others ≤ l.pattern-index;
}
