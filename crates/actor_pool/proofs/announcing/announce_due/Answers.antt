use Rattle.std.proofs.Common.{◌∙◌, arith}
use Rattle.actor_pool.proofs.HelperLemmas.{goes-further}
use Rattle.actor_pool.proofs.announcing.announce_due.Goals as goal

pub loop-actor-preserved : goal.loop-actor-preserved
loop-actor-preserved g c =
    let before = c.loop-actor.invariant in
    let step = c.announce_if_due.ensures in
    record {
      belongs = step.belongs;
      goes_on = goes-further _ _ _ _ before.goes_on step.goes_on;
      taken = step.taken ∙ before.taken;
      took = step.took ∙ before.took;
      nones = omega (arith, before.nones, step.nones);
    }
