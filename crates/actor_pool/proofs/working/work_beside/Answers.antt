use Rattle.actor_pool.proofs.WorkLemmas.{works-queue}
use Rattle.actor_pool.proofs.working.work_beside.Goals as goal

pub returns-clause-works : goal.returns-clause-works
returns-clause-works g c = works-queue _ _ _ c.work_from_beside.ensures.works
