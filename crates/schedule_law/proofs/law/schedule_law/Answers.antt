use Rattle.schedule_law.proofs.FitLemmas.{schedules_are_linked}
use Rattle.schedule_law.proofs.law.schedule_law.Goals as goal

pub returns : goal.returns
returns c = record { linked = schedules_are_linked }
