use Rattle.std.proofs.Common.{◌≡◌, ◌≤◌, length, take, ◌&&◌}
use Rattle.std.specs.Prelude.{nat_lt}
use Rattle.std.specs.List.{filter}
use Rattle.match_tree.proofs.by_value.standing.Given as goal

abbrev pub invariant-loop-number : goal.invariant-loop-number
invariant-loop-number l = record {
  found : l.found ≡ filter (λ n. nat_lt 0 n && nat_lt n l.limit) (take l.number-index l.number-items);
  few : length l.found ≤ l.number-index;
}
