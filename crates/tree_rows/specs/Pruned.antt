-- What is left of nodes where some numbers are taken out.
use Rattle.std.specs.Prelude.{ℕ, ◌≤◌, List, ◌∷◌, length, map, not, ◌==◌, nat_le}
use Rattle.std.specs.List.{filter, AllByRecursion}
use Rattle.tree_rows.specs.Routes.{Route, Branch, lacks}
use Rattle.tree_rows.specs.Order.{Rise}
use Rattle.join_base.specs.Taken.{contains_number}

-- no route has more steps
abbrev pub AreShort : ℕ → List Route → Type 0
AreShort most routes = AllByRecursion (λ route. length route ≤ most) routes

-- each number of a route is greater than those before it
abbrev pub AreRising : List Route → Type 0
AreRising routes = AllByRecursion (λ route. Rise (map (λ s. s.number) route)) routes

-- and greater than this one
abbrev pub RiseFrom : ℕ → List Route → Type 0
RiseFrom number routes = AllByRecursion (λ route. Rise (number ∷ map (λ s. s.number) route)) routes

abbrev pub NodesRise : List Branch → Type 0
NodesRise row = AllByRecursion (λ node. RiseFrom node.number node.routes) row

-- the node without the routes that take one of the numbers
abbrev pub pruned : List ℕ → Branch → Branch
pruned numbers node = record { number = node.number; routes = filter (lacks numbers) node.routes }

-- the nodes that do not take the number
abbrev pub without_number : ℕ → List Branch → List Branch
without_number number row = filter (λ node. not (number == node.number)) row

-- the nodes that take none of the numbers
abbrev pub without_numbers : List ℕ → List Branch → List Branch
without_numbers numbers row = filter (λ node. not (contains_number numbers node.number)) row

-- the nodes that do not take a number before the oldest
abbrev pub seen_nodes : ℕ → List Branch → List Branch
seen_nodes oldest row = filter (λ node. nat_le oldest node.number) row
