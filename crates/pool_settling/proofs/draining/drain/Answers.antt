use Rattle.std.proofs.Common.{◌∙◌, refl, sym, subst}
use Rattle.join_base.specs.declared.message.Stamped.{Stamped}
use Rattle.post_ring.specs.Links.{received}
use Rattle.std.specs.Prelude.{List}
use Rattle.pool_settling.specs.Standing.{Arrives}
use Rattle.pool_settling.proofs.StandLemmas.{all_after, arrives_more, arrives_none, fewer_wait, nothing_waits, steps_by}
use Rattle.pool_settling.proofs.draining.drain.Goals as goal

pub messages-init : goal.messages-init
messages-init g c = record {
  met = c.meet.ensures.met;
  identity = refl;
  all = c.meet.ensures.all;
  known = c.requires.known;
  arrived = arrives_none c.args.source (received c.meet.new.second) c.args.actor.now;
}

pub messages-preserved : goal.messages-preserved
messages-preserved g c =
    let before = c.messages.invariant in
    let take = c.in-Some.ensures.taken in
    let step = c.in-Ok.ensures in
    record {
      met = take.still_met ∙ before.met;
      identity = take.identity ∙ before.identity;
      all = all_after _ _ _ _ take before.met before.all;
      known = step.sources c.args.source before.known;
      arrived = arrives_more _ _ _ _ _ _ _ _ before.arrived (steps_by _ _ _ _ _ step.setting step.step step.history step.outbox) take.taken;
    }

pub messages-smaller : goal.messages-smaller
messages-smaller g c = fewer_wait _ _ _ (c.in-Some.ensures.taken) (c.messages.invariant.met)

pub returns-clause-second : goal.returns-clause-second
returns-clause-second g c =
    let before = c.messages.invariant in
    let empty = c.in_default.ensures.taken in
    (empty.identity ∙ before.identity ∙ c.meet.ensures.second.0, nothing_waits _ _ _ empty before.all ∙ c.meet.ensures.first.1)

pub returns-clause-arrived : goal.returns-clause-arrived
returns-clause-arrived g c =
    let before = c.messages.invariant in
    let empty = c.in_default.ensures.taken in
    subst (λ (x : List Stamped × List Stamped). Arrives c.args.source x.0 x.1 c.args.actor.now c.messages.actor) (λ i. (c.meet.ensures.second.1 i, sym empty.taken i)) before.arrived
