use Rattle.actor_pool.specs.Helpers.{seat_of}
use Rattle.actor_pool.proofs.BesideLemmas.{opening-fits}
use Rattle.pool_run.proofs.HandLemmas.{back-of}
use Rattle.pool_run.proofs.threads.run_worker.Goals as goal

pub work_from_beside-requires-clause-fits : goal.work_from_beside-requires-clause-fits
work_from_beside-requires-clause-fits g c κs within = opening-fits g.B.Beside.fits g.met.B.Beside.grows c.args.part.beside (seat_of c.args.part.helper) c.requires.part.opening

pub returns : goal.returns
returns g c = record { back = back-of c.args.pool.now g.B.Beside.fits c.args.part.helper _ c.requires.part.spare c.in_ok-work_from_beside.ensures.works.goes_on c.in_ok-work_from_beside.ensures.fits }
