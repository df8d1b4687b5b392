use Rattle.std.proofs.Common.{◌≡◌, ◌+◌, length}
use Rattle.tree_rows.specs.Routes.{row_routes}
use Rattle.tree_rows.specs.Order.{IsSoundRow}
use Rattle.tree_rows.specs.Pruned.{AreShort, seen_nodes}
use Rattle.tree_rows.proofs.expire.drop_front.Given as goal

abbrev pub invariant-loop-dropped : goal.invariant-loop-dropped
invariant-loop-dropped l = record {
  same : seen_nodes l.oldest l.row ≡ seen_nodes l.oldest l.initial.row;
  sound : IsSoundRow l.row;
  short : AreShort l.levels (row_routes 0 l.row);
  long : l._dropped + length l.row ≡ length l.initial.row;
  counted : l.gone + length (row_routes 0 l.row) ≡ length (row_routes 0 l.initial.row);
}
