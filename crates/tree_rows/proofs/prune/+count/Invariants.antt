use Rattle.std.proofs.Common.{◌≡◌, ◌+◌, ◌*◌, length, drop}
use Rattle.tree_rows.specs.Routes.{row_routes, rows_routes}
use Rattle.tree_rows.specs.Order.{AreSound}
use Rattle.tree_rows.specs.Pruned.{AreShort}
use Rattle.tree_rows.proofs.prune.+count.Given as goal

abbrev pub decreases-count_rows : goal.decreases-count_rows
decreases-count_rows l = 4 * goal.size-count_rows l + 3

abbrev pub decreases-count_row : goal.decreases-count_row
decreases-count_row l = 4 * goal.size-count_row l + 2

abbrev pub decreases-count_nodes : goal.decreases-count_nodes
decreases-count_nodes l = 4 * goal.size-count_nodes l + 1

abbrev pub decreases-count_node : goal.decreases-count_node
decreases-count_node l = 4 * goal.size-count_node l

abbrev pub invariant-count_rows-loop-row : goal.invariant-count_rows-loop-row
invariant-count_rows-loop-row l = record {
  counted : l.count + length (rows_routes 0 (drop l.row-index l.rows)) ≡ length (rows_routes 0 l.rows);
  sound : AreSound (drop l.row-index l.rows);
  short : AreShort l.levels (rows_routes 0 (drop l.row-index l.rows));
}

abbrev pub invariant-count_nodes-loop-place : goal.invariant-count_nodes-loop-place
invariant-count_nodes-loop-place l = l.count + length (row_routes 0 (drop l.place l.nodes.items)) ≡ length (row_routes 0 l.nodes.items)
