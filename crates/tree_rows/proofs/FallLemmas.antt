-- A row weighs more than its nodes, and a node more than the rows behind it, so a recursion down the tree ends.
use Rattle.std.proofs.Common.{◌≡◌, ◌≤◌, ◌<◌, ◌+◌, ◌*◌, ℕ, List, [], ◌∷◌, length, arith, length-append}
use Rattle.std.proofs.lemmas.List.{length-map}
use denote.Param.Weighed.{most}
use Rattle.tree_rows.specs.declared.node.Node.TheDeep.{size-Node, size-Row}
use Rattle.tree_rows.specs.Routes.{Branch, Route, Step, node_routes, row_routes, rows_routes}
use Rattle.tree_rows.proofs.PruneLemmas.{row_count}

-- a node weighs 4 times the number of its routes, and 4
pub node_weighs : (node : Branch) → size-Node node ≡ 4 * length node.routes + 4
node_weighs node = omega arith

-- a row weighs 4 times the number of its routes, and 2
pub row_weighs : (row : List Branch) → size-Row row ≡ 4 * length (row_routes 0 row) + 2
row_weighs row = omega arith

nodes_fall_from : (p : ℕ) (row : List Branch) → most size-Node row ≤ 4 * length (row_routes p row)
nodes_fall_from p [] = omega arith
nodes_fall_from p (node ∷ row) =
    let step : Step = record { pattern = p; number = node.number } in
    omega (arith, node_weighs node, nodes_fall_from p row, length-append (node_routes p node) (row_routes p row), length-map node.routes (λ (route : Route). step ∷ route))

pub nodes_fall : (row : List Branch) → most size-Node row < size-Row row
nodes_fall row = omega (arith, nodes_fall_from 0 row, row_weighs row)

rows_fall_from : (p : ℕ) (rows : List (List Branch)) → most size-Row rows ≤ 4 * length (rows_routes p rows) + 2
rows_fall_from p [] = omega arith
rows_fall_from p (row ∷ rows) = omega (arith, row_weighs row, row_count p 0 row, rows_fall_from (p + 1) rows, length-append (row_routes p row) (rows_routes (p + 1) rows))

pub rows_fall : (rows : List (List Branch)) → most size-Row rows ≤ 4 * length (rows_routes 0 rows) + 2
rows_fall rows = rows_fall_from 0 rows
