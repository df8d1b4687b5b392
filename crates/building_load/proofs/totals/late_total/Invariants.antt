use Rattle.std.proofs.Common.{◌≡◌, ◌≤◌, ◌+◌, ◌*◌, drop}
use Rattle.building_load.specs.Summary.{late_total}
use Rattle.building_load.proofs.totals.late_total.Given as goal

abbrev pub invariant-loop-count : goal.invariant-loop-count
invariant-loop-count l = record {
  left : l.total + late_total (drop l.count-index l.late) ≡ late_total l.late;
  bounded : l.total ≤ l.count-index * 18446744073709551615;
}
