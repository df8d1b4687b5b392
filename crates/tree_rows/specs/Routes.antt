-- What the nodes below a path stand for: the routes that lead on from it.
use Rattle.std.specs.Prelude.{ℕ, ◌+◌, List, [], ◌∷◌, ◌++◌, map, slice_set, Some, Bool, not, nat_le}
use Rattle.std.specs.List.{flat_map, list_all}
use Rattle.guard_eval.specs.Meaning.{Assignment}
use Rattle.join_base.specs.Taken.{contains_number}

-- a pattern takes a number
pub record Step : Type 0 where
  pub pattern : ℕ
  pub number : ℕ

-- steps, one behind the other
abbrev pub Route : Type 0
Route = List Step

-- a node: the number that it takes, and the routes that lead on from it
pub record Branch : Type 0 where
  pub number : ℕ
  pub routes : List Route

abbrev pub step : ℕ → ℕ → Step
step pattern number = record { pattern = pattern; number = number }

-- the step to a node of the pattern, and the routes that go on from there
abbrev pub node_routes : ℕ → Branch → List Route
node_routes pattern node = (step pattern node.number ∷ []) ∷ map (λ route. step pattern node.number ∷ route) node.routes

-- the routes that begin at the pattern
abbrev pub row_routes : ℕ → List Branch → List Route
row_routes pattern row = flat_map (node_routes pattern) row

-- the routes of the rows, of which the first is the pattern's
abbrev pub rows_routes : ℕ → List (List Branch) → List Route
rows_routes pattern [] = []
rows_routes pattern (row ∷ rows) = row_routes pattern row ++ rows_routes (pattern + 1) rows

-- the assignment in which the pattern has the number too
abbrev pub with_number : Assignment → ℕ → ℕ → Assignment
with_number slots pattern number = slice_set slots pattern (Some number)

-- the assignment at the end of a route
abbrev pub filled : Assignment → Route → Assignment
filled slots [] = slots
filled slots (s ∷ route) = filled (with_number slots s.pattern s.number) route

-- no step takes one of the numbers
abbrev pub lacks : List ℕ → Route → Bool
lacks numbers route = list_all (λ s. not (contains_number numbers s.number)) route

-- no step takes a number before the oldest
abbrev pub is_seen : ℕ → Route → Bool
is_seen oldest route = list_all (λ s. nat_le oldest s.number) route
