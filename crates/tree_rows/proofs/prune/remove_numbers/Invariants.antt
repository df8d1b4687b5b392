use Rattle.std.proofs.Common.{◌≡◌, ◌+◌, length, take}
use Rattle.tree_rows.specs.Routes.{row_routes}
use Rattle.tree_rows.specs.Order.{IsSoundRow}
use Rattle.tree_rows.specs.Pruned.{AreShort, without_numbers}
use Rattle.tree_rows.proofs.prune.remove_numbers.Given as goal

abbrev pub invariant-loop-number : goal.invariant-loop-number
invariant-loop-number l = record {
  is : l.row ≡ without_numbers (take l.number-index l.number-items) l.initial.row;
  sound : IsSoundRow l.row;
  short : AreShort l.levels (row_routes 0 l.row);
  counted : l.gone + length (row_routes 0 l.row) ≡ length (row_routes 0 l.initial.row);
}
