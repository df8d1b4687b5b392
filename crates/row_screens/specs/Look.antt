-- Numbers of a row that are looked up in an index.
use Rattle.std.specs.Prelude.{◌≡◌, ◌⊎◌, ℕ, ◌≤◌, ◌<◌, List, [], length, Bool, true, false, ◌&&◌, Option, Some, None}
use Rattle.std.specs.List.{list_all}
use Rattle.guard_eval.specs.Meaning.{Assignment}
use Rattle.pattern_core.specs.Members.{IsIn}
use Rattle.guard_bound.specs.Bound.{meets}
use Rattle.guard_bound.specs.Same.{is_same}
use Rattle.value_index.specs.Index.{Index, entry}
use Rattle.value_index.specs.ValueRange.{Ascend}
use Rattle.row_screens.specs.declared.look.Look.{Look}
use Rattle.row_screens.specs.declared.screen.Screen.{Screen}
use Rattle.tree_rows.specs.Routes.{Branch, with_number}
use Rattle.tree_rows.specs.Rows.{node_at}
use Rattle.row_screens.specs.Offers.{Offered, may_take, takers}
use Rattle.row_screens.specs.Screen.{IsOffered, IsOther, IsWorthless}

-- the index has no entry of the number with the value
abbrev pub IsAbsent : Index → Look → ℕ → Type 0
IsAbsent index look number = ¬ IsIn (entry look.place look.value number) index.entries

-- a number of the row that has none has no takers behind it
abbrev pub LooksUp : Offered → Assignment → ℕ → Look → Type 0
LooksUp o slots pattern look = (number : ℕ) → IsOffered o slots pattern number → IsAbsent o.index look number → takers o (with_number slots pattern number) ≡ []

-- behind a number of the row that has none, the wanted pattern may not take the offered one
abbrev pub LooksUpAt : Offered → Assignment → ℕ → ℕ → Look → Type 0
LooksUpAt o slots pattern other look = IsOther o slots pattern other → (number : ℕ) → IsOffered o slots pattern number → IsAbsent o.index look number → may_take o (with_number slots pattern number) other ≡ false

-- the numbers ascend, and each number of the row from one on is there, or the wanted pattern may not take the offered one
-- behind it
pub record FindsAt (o : Offered) (slots : Assignment) (pattern other from : ℕ) (numbers : List ℕ) : Type 0 where
  pub ascend : Ascend numbers
  pub has : IsOther o slots pattern other → (number : ℕ) → from ≤ number → IsOffered o slots pattern number → IsIn number numbers ⊎ (may_take o (with_number slots pattern number) other ≡ false)

-- the number passes the bounds and the text of the screen
abbrev pub may_meet : Offered → Option Screen → ℕ → Bool
may_meet o None number = true
may_meet o (Some screen) number = list_all (λ bound. meets o.messages bound number) screen.bounds && is_same o.messages o.number screen.same number

-- from the place on, a number that is worth a visit is among those that are left
abbrev pub AreLeft : Offered → Assignment → ℕ → List Branch → ℕ → List ℕ → Type 0
AreLeft o slots pattern row from left = (i : ℕ) → from ≤ i → i < length row → IsWorthless o slots pattern (node_at row i).number ⊎ IsIn (node_at row i).number left

-- the numbers that are left rise, and have each from the place on that is worth a visit
pub record HasLeft (o : Offered) (slots : Assignment) (pattern : ℕ) (row : List Branch) (from : ℕ) (left : List ℕ) : Type 0 where
  pub ascend : Ascend left
  pub has : AreLeft o slots pattern row from left
