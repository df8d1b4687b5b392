use Rattle.std.proofs.Common.{◌∙◌, sym, subst, refl, arith, List}
use Rattle.cell_links.specs.Wiring.{AreLinked, Key}
use Rattle.pool_settling.specs.Ends.{AreStanding, Entry, IsDrainedAt, entries, keys_of}
use Rattle.pool_settling.proofs.EndLemmas.{drained_more, drained_whole, given_refl, given_trans, go_refl, go_trans, keys_count}
use Rattle.pool_settling.proofs.draining.drain_all.Goals as goal

pub loop-place-init : goal.loop-place-init
loop-place-init g c = record {
  senders = refl;
  keys = refl;
  drained = λ k d l. absurd (omega (arith, l));
  standing = c.requires.standing;
  on = go_refl c.args.actors.now.items;
  given = given_refl c.args.actors.now.items c.args.receivers.now.items;
}

pub drain_at-requires : goal.drain_at-requires
drain_at-requires g c =
    let before = c.loop-place.invariant in
    record {
      within = keys_count c.loop-place.receivers.items c.args.receivers.now.items c.loop-place.place before.keys (omega (arith, c.loop-place-test.true, c.len-place-end.ensures, c.args.receivers.now.ok.0));
      wired = subst (λ (x : List Entry × List Key). AreLinked (keys_of x.0) x.1) (λ i. (sym before.senders i, sym before.keys i)) c.requires.wired;
      standing = subst (λ (es : List Entry). AreStanding es c.loop-place.receivers.items c.loop-place.actors.items) (sym before.senders) before.standing;
    }

pub loop-place-preserved : goal.loop-place-preserved
loop-place-preserved g c =
    let before = c.loop-place.invariant in
    let step = c.in_ok-drain_at.ensures in
    let drained = subst (λ (es : List Entry). IsDrainedAt es c.loop-place.place c.loop-place.receivers.items c.drain_at.new.receivers.items) before.senders step.drained in
    record {
      senders = step.senders ∙ before.senders;
      keys = drained.keys ∙ before.keys;
      drained = drained_more _ _ _ _ drained before.drained;
      standing = subst (λ (es : List Entry). AreStanding es c.drain_at.new.receivers.items c.drain_at.new.actors.items) before.senders step.standing;
      on = go_trans _ _ _ before.on step.on;
      given = given_trans c.args.actors.now.items c.loop-place.actors.items c.drain_at.new.actors.items c.args.receivers.now.items c.loop-place.receivers.items c.drain_at.new.receivers.items before.on before.given step.given;
    }

pub returns-clause-drained : goal.returns-clause-drained
returns-clause-drained g c =
    let before = c.loop-place.invariant in
    drained_whole (entries c.args.senders.now.items) c.loop-place.receivers.items c.args.receivers.now.items c.loop-place.place before.keys before.drained (omega (arith, c.loop-place-test.false, c.len-place-end.ensures, c.args.receivers.now.ok.0))
