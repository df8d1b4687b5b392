use Rattle.std.proofs.Common.{◌∙◌, ap}
use Rattle.ask_board.specs.Board.{cells_of}
use Rattle.ask_run.proofs.TellerLemmas.{others_on}
use Rattle.ask_run.proofs.showing.TellerBeside.seen.Goals as goal

pub returns-clause-fits : goal.returns-clause-fits
returns-clause-fits g c = record { on = ap cells_of c.seen.ensures.board ∙ c.requires.fits.on; fits = c.seen.ensures.fits }

pub returns-clause-others : goal.returns-clause-others
returns-clause-others g c = others_on g.K.OneBoard.cells c.args.self.now _ c.args.actor (ap cells_of c.seen.ensures.board) c.seen.ensures.others
