use Rattle.std.proofs.Common.{◌≡◌, ◌+◌, drop}
use Rattle.building_load.specs.Summary.{firing_count}
use Rattle.building_load.proofs.totals.firing_count.Given as goal

abbrev pub invariant-loop-entry : goal.invariant-loop-entry
invariant-loop-entry l = l.count + firing_count (drop l.entry-index l.entries) ≡ firing_count l.entries
