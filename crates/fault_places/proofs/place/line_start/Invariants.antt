use Rattle.std.proofs.Common.{◌≡◌, ◌+◌, ◌≤◌, take}
use Rattle.std.specs.Prelude.{count_by}
use Rattle.fault_places.specs.Places.{ends_line}
use Rattle.fault_places.proofs.place.line_start.Given as goal

abbrev pub invariant-loop-place : goal.invariant-loop-place
invariant-loop-place l = record {
  counted : l.line ≡ count_by ends_line (take l.place l.text) + 1;
  within : l.line ≤ l.place + 1;
}
