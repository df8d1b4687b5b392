use Rattle.std.proofs.Common.{◌≡◌, ◌++◌, drop, map}
use Rattle.std.specs.List.{AllByRecursion}
use Rattle.once_cell.specs.Once.{cell_name}
use Rattle.ask_board.specs.View.{KnowsNone, noted_cell}
use Rattle.ask_board.proofs.board.AskBoard.view.Given as goal

abbrev pub invariant-loop-actors : goal.invariant-loop-actors
invariant-loop-actors l = record {
  cells : map (map (map noted_cell)) l.feeds ++ map (map (map cell_name)) (drop l.actors-index l.actors-items) ≡ map (map (map cell_name)) l.fn.self.cells;
  nothing : AllByRecursion (AllByRecursion (AllByRecursion KnowsNone)) l.feeds;
}
