use Rattle.std.proofs.Common.{◌≡◌, ◌+◌, ◌*◌, length, map, take, drop}
use Rattle.std.specs.List.{filter}
use Rattle.tree_rows.specs.Routes.{row_routes, rows_routes, lacks}
use Rattle.tree_rows.specs.Pruned.{pruned}
use Rattle.tree_rows.proofs.prune.+prune.Given as goal

abbrev pub decreases-prune_rows : goal.decreases-prune_rows
decreases-prune_rows l = 5 * goal.size-prune_rows l + 4

abbrev pub decreases-prune_row : goal.decreases-prune_row
decreases-prune_row l = 5 * goal.size-prune_row l + 3

abbrev pub decreases-prune_behind : goal.decreases-prune_behind
decreases-prune_behind l = 5 * goal.size-prune_behind l + 2

abbrev pub decreases-prune_nodes : goal.decreases-prune_nodes
decreases-prune_nodes l = 5 * goal.size-prune_nodes l + 1

abbrev pub decreases-prune_node : goal.decreases-prune_node
decreases-prune_node l = 5 * goal.size-prune_node l

abbrev pub invariant-prune_rows-loop-row : goal.invariant-prune_rows-loop-row
invariant-prune_rows-loop-row l = record {
  done : rows_routes 0 (take l.row-index l.rows) ≡ filter (lacks l.numbers) (rows_routes 0 (take l.row-index l.initial.rows));
  left : drop l.row-index l.rows ≡ drop l.row-index l.initial.rows;
  counted : l.gone + length (rows_routes 0 (take l.row-index l.rows)) ≡ length (rows_routes 0 (take l.row-index l.initial.rows));
}

abbrev pub invariant-prune_nodes-loop-place : goal.invariant-prune_nodes-loop-place
invariant-prune_nodes-loop-place l = record {
  done : take l.place l.nodes.items ≡ map (pruned l.numbers) (take l.place l.initial.nodes.items);
  left : drop l.place l.nodes.items ≡ drop l.place l.initial.nodes.items;
  long : length l.nodes.items ≡ length l.initial.nodes.items;
  counted : l.gone + length (row_routes 0 (take l.place l.nodes.items)) ≡ length (row_routes 0 (take l.place l.initial.nodes.items));
}
