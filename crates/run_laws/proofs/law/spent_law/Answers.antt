use Rattle.run_laws.proofs.SpentLemmas.{spent_has_cause, spent_is_full}
use Rattle.run_laws.proofs.law.spent_law.Goals as goal

pub returns : goal.returns
returns c = record { cause = spent_has_cause; full = spent_is_full }
