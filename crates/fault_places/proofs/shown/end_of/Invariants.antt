use Rattle.std.proofs.Common.{length, ◌-◌, ◌≤◌}
use Rattle.fault_places.proofs.shown.end_of.Given as goal

abbrev pub invariant-whole : goal.invariant-whole
invariant-whole l = record { within : l.start ≤ length l.bytes }

abbrev pub decreases-whole : goal.decreases-whole
decreases-whole l = length l.bytes - l.start
