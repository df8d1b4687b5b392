use Rattle.run_fit_law.proofs.LawLemmas.{firings_take_newest, none_waits_between}
use Rattle.run_fit_law.proofs.law.rest_law.Goals as goal

pub returns-clause-none : goal.returns-clause-none
returns-clause-none c = none_waits_between

pub returns-clause-newest : goal.returns-clause-newest
returns-clause-newest c = firings_take_newest
