use Rattle.std.proofs.Common.{◌≡◌, ◌≤◌, take}
use Rattle.std.specs.Prelude.{count_by}
use Rattle.fault_places.specs.Places.{begins_character}
use Rattle.fault_places.proofs.place.characters.Given as goal

abbrev pub invariant-loop-b : goal.invariant-loop-b
invariant-loop-b l = record {
  counted : l.count ≡ count_by begins_character (take l.b-index l.bytes);
  within : l.count ≤ l.b-index;
}
