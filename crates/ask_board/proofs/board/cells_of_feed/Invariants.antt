use Rattle.std.proofs.Common.{length}
use Rattle.ask_board.proofs.CellLemmas.{HasCells}
use Rattle.ask_board.proofs.board.cells_of_feed.Given as goal

-- the cells of the posts so far
abbrev pub invariant-loop-target : goal.invariant-loop-target
invariant-loop-target l = HasCells l.actors l.fn.posts l.rest l.rows

abbrev pub decreases-loop-target : goal.decreases-loop-target
decreases-loop-target l = length l.rest
