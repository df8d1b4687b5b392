use Rattle.std.proofs.Common.{refl}
use Rattle.answerer.proofs.FitLemmas.{fits_nothing}
use Rattle.answerer.proofs.reading.Answerer.new.Goals as goal

pub returns-clause-fits : goal.returns-clause-fits
returns-clause-fits c = fits_nothing _ 32 refl c.in_ok-view.ensures.of_board c.new.ensures.empty c.in_ok-progress.ensures.none
