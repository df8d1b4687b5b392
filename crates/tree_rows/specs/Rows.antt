-- Nodes one by one: a leaf, the node at a place of a row, and a node with other routes.
use Rattle.std.specs.Prelude.{ℕ, List, [], slice_index_or}
use Rattle.tree_rows.specs.Routes.{Branch, Route}

-- a node from which no routes lead on
abbrev pub leaf : ℕ → Branch
leaf number = record { number = number; routes = [] }

abbrev pub node_at : List Branch → ℕ → Branch
node_at row place = slice_index_or row place (leaf 0)

-- the node with these routes in place of its own
abbrev pub leads_to : Branch → List Route → Branch
leads_to node routes = record { number = node.number; routes = routes }
