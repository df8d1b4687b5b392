use Rattle.std.proofs.Common.{ℕ, ◌-◌, ◌<◌, ◌≤◌, length}
use Rattle.std.specs.Prelude.{slice_index}
use Rattle.tree_rows.specs.RowNumbers.{numbers_in}
use Rattle.row_screens.proofs.look.place_by_halves.Given as goal

-- those before the one place are less, and that at the other is not
abbrev pub invariant-loop-low : goal.invariant-loop-low
invariant-loop-low l = record {
  from : l.from ≤ l.low;
  order : l.low ≤ l.high;
  within : l.high ≤ length (numbers_in l.numbers);
  less : (i : ℕ) → l.from ≤ i → i < l.low → slice_index (numbers_in l.numbers) i < l.number;
  reached : l.high < length (numbers_in l.numbers) → l.number ≤ slice_index (numbers_in l.numbers) l.high;
}

abbrev pub decreases-loop-low : goal.decreases-loop-low
decreases-loop-low l = l.high - l.low
