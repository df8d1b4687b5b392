use Rattle.std.proofs.Common.{◌≡◌, ◌≤◌, ◌<◌, ◌+◌, ◌*◌, ◌++◌, drop, length, map}
use Rattle.std.specs.Fmt.{decimal}
use Rattle.arrival_log.specs.LogText.{comma_joined}
use Rattle.arrival_log.proofs.room.put_numbers.Given as goal

abbrev pub invariant-numbers : goal.invariant-numbers
invariant-numbers l = record {
  within : (88 + 21 * l.place ≤ l.start) × (l.start ≤ 512);
  place : l.place < length l.numbers;
  written : drop l.start l.room ≡ comma_joined (map (λ n. decimal n) (drop l.place l.numbers)) ++ drop l.fn.end l.fn.room;
}

abbrev pub decreases-numbers : goal.decreases-numbers
decreases-numbers l = l.place
