use Rattle.run_fit_law.proofs.LawLemmas.{fair_run_fits, fair_runs_fit}
use Rattle.run_fit_law.proofs.law.fits_law.Goals as goal

pub returns-clause-each : goal.returns-clause-each
returns-clause-each c = fair_run_fits

pub returns-clause-whole : goal.returns-clause-whole
returns-clause-whole c = fair_runs_fit
