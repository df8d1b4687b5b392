-- The order of the routes in a tree, in which each stands once.
use Rattle.std.specs.Prelude.{◌≡◌, ◌<◌, ◌⊎◌, ℕ, List, [], ◌∷◌, map}
use Rattle.std.specs.List.{AllByRecursion}
use Rattle.tree_rows.specs.Routes.{Route, Branch}

-- by the first step in which they differ: the earlier pattern, and of one pattern the older number; a route comes before those that go on from it
abbrev pub Earlier : Route → Route → Type 0
Earlier [] [] = ⊥
Earlier [] (t ∷ later) = Unit {0}
Earlier (s ∷ route) [] = ⊥
Earlier (s ∷ route) (t ∷ later) = (s.pattern < t.pattern) ⊎ (((s.pattern ≡ t.pattern) × (s.number < t.number)) ⊎ ((s ≡ t) × Earlier route later))

abbrev pub AreOrdered : List Route → Type 0
AreOrdered [] = Unit {0}
AreOrdered (route ∷ routes) = AllByRecursion (Earlier route) routes × AreOrdered routes

-- each number is greater than those before it
abbrev pub Rise : List ℕ → Type 0
Rise [] = Unit {0}
Rise (n ∷ numbers) = AllByRecursion (λ m. n < m) numbers × Rise numbers

-- the routes below a node are ordered behind its own, so none of them is empty
abbrev pub IsOrderedNode : Branch → Type 0
IsOrderedNode node = AreOrdered ([] ∷ node.routes)

-- the nodes of a row stand in the order of their numbers, and the routes below each are ordered
pub record IsSoundRow (row : List Branch) : Type 0 where
  pub rise : Rise (map (λ node. node.number) row)
  pub ordered : AllByRecursion IsOrderedNode row

abbrev pub AreSound : List (List Branch) → Type 0
AreSound rows = AllByRecursion IsSoundRow rows
