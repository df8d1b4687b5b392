use Rattle.std.proofs.Common.{◌∙◌, ap}
use Rattle.ask_board.specs.Board.{cells_of}
use Rattle.ask_run.proofs.TellerLemmas.{opening_fits}
use Rattle.ask_run.proofs.tellers.teller.Goals as goal

pub returns : goal.returns
returns g c = record { opening = opening_fits g.K.OneBoard.cells _ (ap cells_of c.in_ok-answerer.ensures.board ∙ c.requires.on) c.in_ok-answerer.ensures.fits }
