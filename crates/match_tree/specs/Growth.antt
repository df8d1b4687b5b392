-- What a visit of a number leaves of the routes below a path.
use Rattle.std.specs.Prelude.{◌≡◌, ◌⊎◌, List, [], ◌∷◌, map, true, ℕ}
use Rattle.std.specs.List.{filter, AllByRecursion}
use Rattle.guard_eval.specs.Meaning.{Assignment}
use Rattle.pattern_core.specs.Members.{IsIn}
use Rattle.tree_rows.specs.Routes.{Route, step, with_number, lacks}
use Rattle.row_screens.specs.Offers.{Offered, seen, new_routes, takers}

-- without the new number the routes are as before
abbrev pub Lasts : ℕ → List Route → List Route → Type 0
Lasts number before now = filter (lacks (number ∷ [])) now ≡ before

-- the steps to the number at these patterns
abbrev pub steps_to : ℕ → List ℕ → List Route
steps_to number patterns = map (λ p. step p number ∷ []) patterns

-- the routes have been joined by those that the number adds behind the seen ones, and by a step to it at these patterns
pub record Grows (o : Offered) (slots : Assignment) (here : List ℕ) (before now : List Route) : Type 0 where
  pub from : (r : Route) → IsIn r now → IsIn r before ⊎ (IsIn r (new_routes o slots (seen o before)) ⊎ IsIn r (steps_to o.number here))
  pub keeps : (r : Route) → IsIn r before → IsIn r now
  pub adds : (r : Route) → IsIn r (new_routes o slots (seen o before)) → IsIn r now
  pub begins : (r : Route) → IsIn r (steps_to o.number here) → IsIn r now

-- where no pattern may take the number behind its first step, the route does not take it there
abbrev pub IsEarned : Offered → Assignment → Route → Type 0
IsEarned o slots [] = Unit {0}
IsEarned o slots (s ∷ route) = takers o (with_number slots s.pattern s.number) ≡ [] → lacks (o.number ∷ []) route ≡ true

abbrev pub AreEarned : Offered → Assignment → List Route → Type 0
AreEarned o slots routes = AllByRecursion (IsEarned o slots) routes
