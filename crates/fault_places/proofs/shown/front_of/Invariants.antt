use Rattle.std.proofs.Common.{◌≤◌}
use Rattle.fault_places.proofs.shown.front_of.Given as goal

abbrev pub invariant-whole : goal.invariant-whole
invariant-whole l = record { within : l.end ≤ l.max }

abbrev pub decreases-whole : goal.decreases-whole
decreases-whole l = l.end
