-- What is added at a path where a number begins at some of its patterns.
use Rattle.std.specs.Prelude.{◌<◌, ◌⊎◌, ℕ, List, map}
use Rattle.std.specs.List.{AllByRecursion}
use Rattle.pattern_core.specs.Members.{IsIn}
use Rattle.tree_rows.specs.Routes.{Route, Branch}
use Rattle.match_tree.specs.Growth.{steps_to}

-- each node of the row has a lesser number
abbrev pub IsLess : ℕ → List Branch → Type 0
IsLess number row = AllByRecursion (λ m. m < number) (map (λ node. node.number) row)

abbrev pub AreLess : ℕ → List (List Branch) → Type 0
AreLess number rows = AllByRecursion (IsLess number) rows

-- the routes have been joined by a step to the number at these patterns
pub record Begins (number : ℕ) (here : List ℕ) (before now : List Route) : Type 0 where
  pub from : (r : Route) → IsIn r now → IsIn r before ⊎ IsIn r (steps_to number here)
  pub keeps : (r : Route) → IsIn r before → IsIn r now
  pub begins : (r : Route) → IsIn r (steps_to number here) → IsIn r now
