use Rattle.std.proofs.Common.{◌≡◌, ◌≤◌, ◌<◌, ◌++◌, drop, length, map}
use Rattle.arrival_log.specs.LogText.{comma_joined, value_text}
use Rattle.arrival_log.proofs.room.put_values.Given as goal

abbrev pub invariant-values : goal.invariant-values
invariant-values l = record {
  within : (235 ≤ l.start) × (l.start ≤ 512);
  place : l.place < length l.values;
  written : drop l.start l.room ≡ comma_joined (map value_text (drop l.place l.values)) ++ drop l.fn.end l.fn.room;
}

abbrev pub decreases-values : goal.decreases-values
decreases-values l = l.place
