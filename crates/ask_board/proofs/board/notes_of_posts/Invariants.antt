use Rattle.std.proofs.Common.{◌≡◌, ◌++◌, drop, map}
use Rattle.std.specs.List.{AllByRecursion}
use Rattle.once_cell.specs.Once.{cell_name}
use Rattle.ask_board.specs.View.{KnowsNone, noted_cell}
use Rattle.ask_board.proofs.board.notes_of_posts.Given as goal

abbrev pub invariant-loop-cell : goal.invariant-loop-cell
invariant-loop-cell l = record {
  cells : map noted_cell l.notes ++ map cell_name (drop l.cell-index l.cell-items) ≡ map cell_name l.fn.cells;
  nothing : AllByRecursion KnowsNone l.notes;
}
