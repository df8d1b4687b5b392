use Rattle.ask_board.specs.Board.{cells_of}
use Rattle.ask_run.proofs.running.run_asking.Given as goal

abbrev pub ghosts-run_on : goal.ghosts-run_on
ghosts-run_on g a = record { cells = cells_of a.board.now }
