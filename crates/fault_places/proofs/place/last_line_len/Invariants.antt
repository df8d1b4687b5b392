use Rattle.std.proofs.Common.{◌≡◌, ◌+◌, ◌≤◌, length, take}
use Rattle.std.specs.List.{suffix_len}
use Rattle.fault_places.specs.Places.{is_inside_line}
use Rattle.fault_places.proofs.place.last_line_len.Given as goal

abbrev pub invariant-back : goal.invariant-back
invariant-back l = record {
  within : l.start ≤ length l.bytes;
  counted : l.start + suffix_len is_inside_line l.bytes ≡ length l.bytes + suffix_len is_inside_line (take l.start l.bytes);
}

abbrev pub decreases-back : goal.decreases-back
decreases-back l = l.start
