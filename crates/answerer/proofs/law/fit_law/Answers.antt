use Rattle.answerer.proofs.FitLemmas.{fits_grow}
use Rattle.answerer.proofs.law.fit_law.Goals as goal

pub returns : goal.returns
returns c = fits_grow
