-- Assignments whose numbers are all before a number, and routes whose numbers rise.
use Rattle.std.specs.Prelude.{◌≡◌, ◌<◌, ℕ, List, [], ◌∷◌, None, Some, true, false}
use Rattle.std.specs.List.{AllByRecursion}
use Rattle.pattern_core.specs.Matches.{is_full}
use Rattle.guard_eval.specs.Meaning.{Assignment}
use Rattle.tree_rows.specs.Routes.{Route, with_number, filled}
use Rattle.row_screens.specs.Offers.{is_free}

-- each number of the assignment is less
abbrev pub AreBelow : ℕ → Assignment → Type 0
AreBelow number [] = Unit {0}
AreBelow number (None ∷ slots) = AreBelow number slots
AreBelow number (Some n ∷ slots) = (n < number) × AreBelow number slots

-- each step of the route takes a free pattern, and a number greater than all before it
abbrev pub Climbs : Assignment → Route → Type 0
Climbs slots [] = Unit {0}
Climbs slots (s ∷ route) = (is_free slots s.pattern ≡ true) × AreBelow s.number slots × Climbs (with_number slots s.pattern s.number) route

-- the route climbs from the path and leaves a pattern free
pub record IsOpen (slots : Assignment) (route : Route) : Type 0 where
  pub climbs : Climbs slots route
  pub free : is_full (filled slots route) ≡ false

abbrev pub AreOpen : Assignment → List Route → Type 0
AreOpen slots routes = AllByRecursion (IsOpen slots) routes
