-- Which conjuncts of a definition have fields of which patterns.
use Rattle.std.specs.Prelude.{◌≡◌, ℕ, ◌<◌, List, [], ◌∷◌, Bool, false, ◌&&◌, ◌||◌, ◌==◌, Option, Some, None, slice_get}
use Rattle.std.specs.List.{list_all}
use Rattle.guard_eval.specs.Condition.{Condition}
use Rattle.guard_eval.specs.Meaning.{Assignment, Need, is_filled, needs_of}
use Rattle.row_screens.specs.PlaceSet.{has}
use Rattle.row_screens.specs.declared.place_set.PlaceSet.{PlaceSet}
use Rattle.row_screens.specs.declared.ties.Ties.{Ties}

-- one of the variables is a field of the pattern
abbrev pub names : ℕ → List Need → Bool
names pattern [] = false
names pattern (need ∷ needs) = (need.0.pattern == pattern) || names pattern needs

abbrev pub needs_in : Option Condition → List Need
needs_in None = []
needs_in (Some c) = needs_of c

-- the variables of the conjunct at the place, if there is one
abbrev pub needs_at : List Condition → ℕ → List Need
needs_at conjuncts place = needs_in (slice_get conjuncts place)

-- of the first 64 conjuncts the set has those with a field of the pattern
abbrev pub AreNaming : List Condition → ℕ → PlaceSet → Type 0
AreNaming conjuncts pattern places = (k : ℕ) → k < 64 → has places k ≡ names pattern (needs_at conjuncts k)

-- the table has a set for each of 8 patterns: the conjuncts with a field of it
abbrev pub AreTied : Ties → List Condition → Type 0
AreTied ties conjuncts = (pattern : ℕ) (places : PlaceSet) → slice_get ties.cells pattern ≡ Some places → AreNaming conjuncts pattern places

-- of the places the set has those whose conjuncts have fields of filled patterns alone
abbrev pub AreFilledAmong : List Condition → Assignment → PlaceSet → PlaceSet → Type 0
AreFilledAmong conjuncts slots among places = (k : ℕ) → k < 64 → has places k ≡ (has among k && list_all (is_filled slots) (needs_at conjuncts k))
