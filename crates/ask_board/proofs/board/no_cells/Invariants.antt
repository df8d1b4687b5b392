use Rattle.std.proofs.Common.{◌≡◌, replicate, []}
use Rattle.ask_board.proofs.board.no_cells.Given as goal

abbrev pub invariant-loop : goal.invariant-loop
invariant-loop l = l.rows ≡ replicate l.counter []
