use Rattle.actor_pool.proofs.BesideLemmas.{goes-fits}
use Rattle.actor_pool.proofs.HelperLemmas.{goes-further, stays}
use Rattle.actor_pool.proofs.feeding.help.Goals as goal

pub returns-in-Ok-clause-goes_on : goal.returns-in-Ok-clause-goes_on
returns-in-Ok-clause-goes_on g c = goes-further _ _ _ _ c.in-Ok.ensures.goes_on c.announce_due.ensures.goes_on

pub returns-in-Ok-clause-fits : goal.returns-in-Ok-clause-fits
returns-in-Ok-clause-fits g c = goes-fits g.B.Beside.fits g.met.B.Beside.grows _ _ _ _ c.announce_due.ensures.goes_on c.in-Ok.ensures.fits

pub returns-then-failed-clause-goes_on : goal.returns-then-failed-clause-goes_on
returns-then-failed-clause-goes_on g c = stays c.args.pool.now c.args.helper.now c.requires.own
