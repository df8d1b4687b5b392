-- Sets of places below 64.
use Rattle.std.specs.Prelude.{ℕ, Bool, ◌==◌}
use Rattle.std.specs.Int.{bit_at}
use Rattle.row_screens.specs.declared.place_set.PlaceSet.{PlaceSet}

-- the set has the place
abbrev pub has : PlaceSet → ℕ → Bool
has places place = bit_at places.bits place == 1
