use Rattle.schedule_law.proofs.WorkLemmas.{steps_leave_less}
use Rattle.schedule_law.proofs.law.work_law.Goals as goal

pub returns : goal.returns
returns c = record { less = steps_leave_less }
