use Rattle.std.proofs.Common.{take}
use Rattle.ask_board.proofs.CellLemmas.{AreCells}
use Rattle.ask_board.proofs.board.AskBoard.new.Given as goal

-- the cells of the feeds so far
abbrev pub invariant-loop-posts : goal.invariant-loop-posts
invariant-loop-posts l = AreCells l.actors (take l.posts-index l.posts-items) l.cells
