use Rattle.std.proofs.Common.{ℕ, not}
use Rattle.std.specs.Prelude.{◌==◌}
use Rattle.row_screens.specs.Offering.{offered}
use Rattle.row_screens.proofs.TrialLemmas.{none_stood, some_decided, stood_more}
use Rattle.row_screens.proofs.trial.all_hold.Goals as goal

pub loop-place-init : goal.loop-place-init
loop-place-init c = record {
  decided = c.requires.decided;
  stood = none_stood (offered c.args.offer.now) c.args.slots.now c.args.those;
}

pub holds_at-requires-clause-decided : goal.holds_at-requires-clause-decided
holds_at-requires-clause-decided c = c.loop-place.invariant.decided c.in-Some.place c.in-Some.ensures.0 c.in-Some.ensures.1

pub loop-place-preserved : goal.loop-place-preserved
loop-place-preserved c =
    let a = c.args in
    let o = offered a.offer.now in
    let inv = c.loop-place.invariant in
    let place : ℕ = c.in-Some.place in
    record {
      decided = some_decided o a.slots.now c.loop-place.left c.but-left.result (λ k. not (k == place)) c.but-left.ensures.others inv.decided;
      stood = stood_more o a.slots.now a.those c.loop-place.left c.but-left.result place c.but-left.ensures.others inv.stood (c.holds_at.ensures.stands c.if-not-holds_at.false);
    }

pub returns-clause-stand : goal.returns-clause-stand
returns-clause-stand c = λ yes k small member. c.loop-place.invariant.stood k small member (c.in_default.ensures k)
