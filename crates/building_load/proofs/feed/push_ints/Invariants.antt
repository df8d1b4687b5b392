use Rattle.std.proofs.Common.{◌≡◌, ◌++◌, map, drop}
use Rattle.building_load.specs.Rows.{int}
use Rattle.building_load.proofs.feed.push_ints.Given as goal

abbrev pub invariant-loop-integer : goal.invariant-loop-integer
invariant-loop-integer l = l.fields ++ map int (drop l.integer-index l.integers) ≡ map int l.integers
