use Rattle.std.proofs.Common.{◌≡◌, ◌++◌, drop, map}
use Rattle.std.specs.List.{AllByRecursion}
use Rattle.once_cell.specs.Once.{cell_name}
use Rattle.ask_board.specs.View.{KnowsNone, noted_cell}
use Rattle.ask_board.proofs.board.notes_of_actors.Given as goal

abbrev pub invariant-loop-cells : goal.invariant-loop-cells
invariant-loop-cells l = record {
  cells : map (map noted_cell) l.notes ++ map (map cell_name) (drop l.cells-index l.cells-items) ≡ map (map cell_name) l.fn.actors;
  nothing : AllByRecursion (AllByRecursion KnowsNone) l.notes;
}
