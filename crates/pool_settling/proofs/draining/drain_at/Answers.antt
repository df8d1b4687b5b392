use Rattle.std.proofs.Common.{arith, rules, sym, subst, List, get_or}
use Rattle.cell_links.specs.Wiring.{Key}
use Rattle.pool_settling.specs.declared.ends.Sender.{Sender}
use Rattle.pool_settling.specs.Ends.{IsServed, Serves, entries, keys_of}
use Rattle.pool_settling.proofs.EndLemmas.{then_drained, then_given, then_on, then_stand, ends_meet, entries_set, has_count_of, served_at, target_there}
use Rattle.pool_settling.proofs.draining.drain_at.Goals as goal

pub place_of-from-requires : goal.place_of-from-requires
place_of-from-requires g c = record {
  served = subst (λ (l : List Sender). IsServed (entries l) c.index_mut-receiver.result.now.source c.index_mut-receiver.result.now.target) (sym c.as_slice.ensures.value)
      (served_at (entries c.args.senders.now.items) c.args.receivers.now.items c.args.place c.index_mut-receiver.result.now c.requires.wired c.requires.within (sym c.index_mut-receiver.ensures.value));
}

pub index_mut-actor-requires : goal.index_mut-actor-requires
index_mut-actor-requires g c =
    let l = target_there c.args.receivers.now.items c.args.actors.now.items c.requires.standing c.args.place c.index_mut-receiver.result.now c.requires.within (sym c.index_mut-receiver.ensures.value) in
    omega (arith, l, c.args.actors.now.ok.0)

pub drain-requires : goal.drain-requires
drain-requires g c =
    let r = c.index_mut-receiver.result.now in
    let hr = sym c.index_mut-receiver.ensures.value in
    let serves = subst (λ (l : List Sender). (d : Key) → Serves (get_or (keys_of (entries l)) c.place_of-from.result d) r.source r.target) c.as_slice.ensures.value c.place_of-from.ensures.serves in
    record {
      one = ends_meet c.args.senders.now.items c.args.receivers.now.items c.place_of-from.result c.args.place c.index_mut-sender.result.now r c.requires.wired (search rules) (sym c.index_mut-sender.ensures.value) c.requires.within hr serves;
      known = has_count_of c.args.receivers.now.items c.args.actors.now.items c.requires.standing c.args.place r c.requires.within hr c.index_mut-actor.result.now (sym c.index_mut-actor.ensures.value);
    }

pub returns-clause-senders : goal.returns-clause-senders
returns-clause-senders g c =
    let kept = c.drain.ensures.first in
    entries_set c.args.senders.now.items c.place_of-from.result c.index_mut-sender.result.now _ (search rules) (sym c.index_mut-sender.ensures.value) kept.0 kept.1

pub returns-clause-drained : goal.returns-clause-drained
returns-clause-drained g c =
    then_drained c.args.senders.now.items c.args.receivers.now.items c.args.actors.now.items c.requires.standing c.requires.wired c.args.place c.index_mut-receiver.result.now _ c.place_of-from.result c.index_mut-sender.result.now
    c.index_mut-actor.result.now _ c.requires.within (sym c.index_mut-receiver.ensures.value) (search rules) (sym c.index_mut-sender.ensures.value) (subst (λ (l : List Sender). (d : Key) → Serves (get_or (keys_of (entries l)) c.place_of-from.result d) c.index_mut-receiver.result.now.source c.index_mut-receiver.result.now.target) c.as_slice.ensures.value c.place_of-from.ensures.serves)
    (sym c.index_mut-actor.ensures.value) c.drain.result c.drain.ensures.second c.drain.ensures.arrived

pub returns-clause-standing : goal.returns-clause-standing
returns-clause-standing g c =
    then_stand c.args.senders.now.items c.args.receivers.now.items c.args.actors.now.items c.requires.standing c.requires.wired c.args.place c.index_mut-receiver.result.now _ c.place_of-from.result c.index_mut-sender.result.now
    c.index_mut-actor.result.now _ c.requires.within (sym c.index_mut-receiver.ensures.value) (search rules) (sym c.index_mut-sender.ensures.value) (subst (λ (l : List Sender). (d : Key) → Serves (get_or (keys_of (entries l)) c.place_of-from.result d) c.index_mut-receiver.result.now.source c.index_mut-receiver.result.now.target) c.as_slice.ensures.value c.place_of-from.ensures.serves)
    (sym c.index_mut-actor.ensures.value) c.drain.result c.drain.ensures.second c.drain.ensures.arrived

pub returns-clause-on : goal.returns-clause-on
returns-clause-on g c =
    then_on c.args.senders.now.items c.args.receivers.now.items c.args.actors.now.items c.requires.standing c.requires.wired c.args.place c.index_mut-receiver.result.now _ c.place_of-from.result c.index_mut-sender.result.now
    c.index_mut-actor.result.now _ c.requires.within (sym c.index_mut-receiver.ensures.value) (search rules) (sym c.index_mut-sender.ensures.value) (subst (λ (l : List Sender). (d : Key) → Serves (get_or (keys_of (entries l)) c.place_of-from.result d) c.index_mut-receiver.result.now.source c.index_mut-receiver.result.now.target) c.as_slice.ensures.value c.place_of-from.ensures.serves)
    (sym c.index_mut-actor.ensures.value) c.drain.result c.drain.ensures.second c.drain.ensures.arrived

pub returns-clause-given : goal.returns-clause-given
returns-clause-given g c =
    then_given c.args.senders.now.items c.args.receivers.now.items c.args.actors.now.items c.requires.standing c.requires.wired c.args.place c.index_mut-receiver.result.now _ c.place_of-from.result c.index_mut-sender.result.now
    c.index_mut-actor.result.now _ c.requires.within (sym c.index_mut-receiver.ensures.value) (search rules) (sym c.index_mut-sender.ensures.value) (subst (λ (l : List Sender). (d : Key) → Serves (get_or (keys_of (entries l)) c.place_of-from.result d) c.index_mut-receiver.result.now.source c.index_mut-receiver.result.now.target) c.as_slice.ensures.value c.place_of-from.ensures.serves)
    (sym c.index_mut-actor.ensures.value) c.drain.result c.drain.ensures.second c.drain.ensures.arrived
