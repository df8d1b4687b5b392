use Rattle.std.proofs.Common.{◌∙◌}
use Rattle.actor_pool.proofs.BesideLemmas.{goes-fits}
use Rattle.actor_pool.proofs.HelperLemmas.{goes-further}
use Rattle.actor_pool.proofs.PosterLemmas.{same-trans}
use Rattle.actor_pool.proofs.feeding.post_one.Goals as goal

pub returns-in-Ok-clause-goes_on : goal.returns-in-Ok-clause-goes_on
returns-in-Ok-clause-goes_on g c = goes-further _ _ _ _ c.loop.invariant.goes_on c.announce.ensures.goes_on

pub returns-in_err-help-in-Err-clause-goes_on : goal.returns-in_err-help-in-Err-clause-goes_on
returns-in_err-help-in-Err-clause-goes_on g c = goes-further _ _ _ _ c.loop.invariant.goes_on c.in_err-help-in-Err.ensures.goes_on

pub loop-preserved : goal.loop-preserved
loop-preserved g c =
    let before = c.loop.invariant in
    let refused = c.in-Err.ensures in
    record {
      poster = refused.own;
      tag = refused.tag ∙ before.tag;
      goes_on = goes-further _ _ _ _ before.goes_on c.in_ok-help-in-Err.ensures.goes_on;
      same = same-trans _ _ _ before.same refused.full.1;
      message = refused.full.0 ∙ before.message;
      fits = c.in_ok-help-in-Err.ensures.fits;
    }

pub returns-in-Ok-clause-fits : goal.returns-in-Ok-clause-fits
returns-in-Ok-clause-fits g c = goes-fits g.B.Beside.fits g.met.B.Beside.grows _ _ _ _ c.announce.ensures.goes_on c.loop.invariant.fits
