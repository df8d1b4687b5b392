use Rattle.actor_pool.specs.Helpers.{seat_of}
use Rattle.actor_pool.proofs.BesideLemmas.{opening-fits}
use Rattle.pool_run.proofs.HandLemmas.{back-of}
use Rattle.pool_run.proofs.threads.run_feed.Goals as goal

pub feed_beside-requires-clause-fits : goal.feed_beside-requires-clause-fits
feed_beside-requires-clause-fits g c = opening-fits g.B.Beside.fits g.met.B.Beside.grows c.args.part.beside (seat_of c.args.part.helper) c.requires.part.opening

pub returns-clause-back : goal.returns-clause-back
returns-clause-back g c = back-of c.args.pool.now g.B.Beside.fits c.args.part.helper _ c.requires.part.spare c.in_ok-feed_beside.ensures.goes_on c.in_ok-feed_beside.ensures.fits
