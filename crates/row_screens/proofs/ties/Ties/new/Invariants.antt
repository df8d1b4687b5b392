use Rattle.std.proofs.Common.{◌≡◌, ◌<◌, ℕ, Some, length, slice_get}
use Rattle.row_screens.specs.Ties.{AreNaming}
use Rattle.row_screens.specs.declared.place_set.PlaceSet.{PlaceSet}
use Rattle.row_screens.proofs.ties.Ties.new.Given as goal

-- the sets of the patterns so far
abbrev pub invariant-loop-pattern : goal.invariant-loop-pattern
invariant-loop-pattern l = record {
  long : length l.cells ≡ 8;
  told : (p : ℕ) (places : PlaceSet) → p < l.pattern → slice_get l.cells p ≡ Some places → AreNaming l.conjuncts p places;
}
