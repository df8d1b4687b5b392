use Rattle.actor_pool.proofs.BesideLemmas.{goes-fits}
use Rattle.actor_pool.proofs.WorkLemmas.{works-not, works-one}
use Rattle.actor_pool.proofs.working.work_once.Goals as goal

pub work_at-requires-clause-fits : goal.work_at-requires-clause-fits
work_at-requires-clause-fits g c κs within = goes-fits g.B.Beside.fits g.met.B.Beside.grows c.args.pool.now c.args.helper.now c.find.new.helper c.args.beside.now c.find.ensures.taken.goes_on c.requires.fits

pub returns-in_default-clause-fits : goal.returns-in_default-clause-fits
returns-in_default-clause-fits g c = goes-fits g.B.Beside.fits g.met.B.Beside.grows c.args.pool.now c.args.helper.now c.find.new.helper c.args.beside.now c.find.ensures.taken.goes_on c.requires.fits

pub returns-then-actor-pool-clause-fits : goal.returns-then-actor-pool-clause-fits
returns-then-actor-pool-clause-fits g c = goes-fits g.B.Beside.fits g.met.B.Beside.grows c.args.pool.now c.args.helper.now c.find.new.helper c.args.beside.now c.find.ensures.taken.goes_on c.requires.fits

pub returns-clause-works : goal.returns-clause-works
returns-clause-works g c =
    let step = c.work_at.ensures in
    works-one c.args.pool.now _ _ _ c.in-Some.actor c.args.helper.now c.find.new.helper c.work_at.new.helper c.in-Some.ensures.taken step.goes_on step.taken step.took step.claimed

pub returns-in_err-work_at-clause-works : goal.returns-in_err-work_at-clause-works
returns-in_err-work_at-clause-works g c =
    let step = c.work_at.ensures in
    works-one c.args.pool.now _ _ _ c.in-Some.actor c.args.helper.now c.find.new.helper c.work_at.new.helper c.in-Some.ensures.taken step.goes_on step.taken step.took step.claimed

pub returns-then-failed-clause-works : goal.returns-then-failed-clause-works
returns-then-failed-clause-works g c = works-not _ _ _ c.requires.own
