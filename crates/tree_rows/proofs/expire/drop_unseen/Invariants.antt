use Rattle.std.proofs.Common.{◌≡◌, ◌+◌, length, map, take, drop}
use Rattle.tree_rows.specs.Routes.{rows_routes}
use Rattle.tree_rows.specs.Pruned.{seen_nodes}
use Rattle.tree_rows.proofs.expire.drop_unseen.Given as goal

abbrev pub invariant-loop-row : goal.invariant-loop-row
invariant-loop-row l = record {
  done : take l.row-index l.rows ≡ map (seen_nodes l.oldest) (take l.row-index l.initial.rows);
  left : drop l.row-index l.rows ≡ drop l.row-index l.initial.rows;
  counted : l.gone + length (rows_routes 0 (take l.row-index l.rows)) ≡ length (rows_routes 0 (take l.row-index l.initial.rows));
}
