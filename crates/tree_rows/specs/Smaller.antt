-- A row weighs more than each of its nodes, and a node more than each row behind it, so a walk down the tree ends.
use Rattle.std.specs.Prelude.{ℕ, ◌+◌, ◌*◌, ◌≤◌, List, [], ◌∷◌, length, max}
use Rattle.std.proofs.Common.{arith, length-append}
use Rattle.std.proofs.lemmas.List.{length-map}
use denote.Param.Weighed.{most}
use Rattle.tree_rows.specs.Routes.{Step, Branch, Route, node_routes, row_routes, rows_routes}
use Rattle.tree_rows.specs.Shapes.{rows_behind, branches}
use Rattle.tree_rows.specs.declared.node.Shape.{Shape}
use Rattle.tree_rows.specs.declared.node.Shape.TheVariants.{Leaf, Inner}
use Rattle.tree_rows.specs.declared.row.Nodes.{Nodes}
use Rattle.tree_rows.specs.declared.row.Nodes.TheVariants.{Empty, One, Leaves, Many, Mixed}
use Rattle.tree_rows.specs.declared.node.Node.TheDeep.{deep-Shape, deep-Nodes}

module _ (size : Branch → ℕ) (small : (node : Branch) → size node ≤ 2 * length node.routes + 2) where
  most_of_row : (p : ℕ) (row : List Branch) → most size row ≤ 2 * length (row_routes p row)
  most_of_row p [] = omega arith
  most_of_row p (node ∷ row) =
      let step : Step = record { pattern = p; number = node.number } in
      omega (arith, small node, most_of_row p row, length-append (node_routes p node) (row_routes p row), length-map node.routes (λ (route : Route). step ∷ route))

row_counts : (p q : ℕ) (row : List Branch) → length (row_routes p row) ≤ length (row_routes q row)
row_counts p q [] = omega arith
row_counts p q (node ∷ row) =
    let at : ℕ → Step = λ k. record { pattern = k; number = node.number } in
    omega (arith, row_counts p q row, length-append (node_routes p node) (row_routes p row), length-append (node_routes q node) (row_routes q row), length-map node.routes (λ (route : Route). at p ∷ route), length-map node.routes (λ (route : Route). at q ∷ route))

most_of_rows : (p : ℕ) (rows : List (List Branch)) → most (λ row. 2 * length (row_routes 0 row) + 1) rows ≤ 2 * length (rows_routes p rows) + 1
most_of_rows p [] = omega arith
most_of_rows p (row ∷ rows) = omega (arith, most_of_rows (p + 1) rows, row_counts 0 p row, length-append (row_routes p row) (rows_routes (p + 1) rows))

-- each node of a row has fewer routes than the row
pub most_of_nodes : (nodes : Nodes) → max (deep-Nodes nodes) 0 ≤ 2 * length (row_routes 0 (branches nodes))
most_of_nodes Empty = omega arith
most_of_nodes (One number) = omega arith
most_of_nodes (Leaves numbers) = omega arith
most_of_nodes (Many numbers) = omega arith
most_of_nodes (Mixed nodes) = omega (arith, most_of_row (λ node. 2 * length node.routes + 1 + 1) (λ node. omega arith) 0 nodes.value.items)

-- each row behind a node has no more routes than all of them together
pub most_behind : (shape : Shape) → max (deep-Shape shape) 0 ≤ 2 * length (rows_routes 0 (rows_behind shape)) + 1
most_behind (Leaf number) = omega arith
most_behind (Inner number rows) = omega (arith, most_of_rows 0 rows.value.items)
