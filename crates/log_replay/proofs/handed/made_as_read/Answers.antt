use Rattle.std.proofs.Common.{◌≡◌, ◌∙◌, ◌∷◌, [], true, List, ap, sym}
use Rattle.std.specs.Prelude.{reverse}
use Rattle.std.proofs.lemmas.List.{reverse-append, reverse-reverse}
use Rattle.fair_semantics.specs.declared.run.Entry.{Entry}
use Rattle.log_replay.proofs.HandedLemmas.{walks_first, walks_on}
use Rattle.log_replay.proofs.handed.made_as_read.Goals as goal

pub loop-entry-init : goal.loop-entry-init
loop-entry-init g c =
    walks_first c.args.plan.now c.args.limits c.args.feeds c.args.index c.in_ok-actor.actor c.from_vec-stamps.result (reverse c.reverse.new.self.items) c.args.entries c.in_ok-actor.ensures.opening (c.from_vec-stamps.ensures.same ∙ c.in_ok-with_capacity.ensures.items)
    (ap reverse c.reverse.ensures.items ∙ reverse-reverse c.into_vec-rest.result.items ∙ c.into_vec-rest.ensures.same) c.requires.counted

pub loop-entry-preserved : goal.loop-entry-preserved
loop-entry-preserved g c =
    let same : c.in_ok-arrives_as_read.field-0 ≡ true = c.if-not-branch.false in
    let e = c.in_ok-arrives_as_read.ensures in
    let left = c.pop.new.self.items in
    let here : reverse c.loop-entry.rest.items ≡ c.in-Some.entry ∷ reverse c.give_room_back.new.items.items =
    ap reverse c.in-Some.ensures.items ∙ reverse-append left (c.in-Some.entry ∷ []) ∙ ap (λ (es : List Entry). c.in-Some.entry ∷ reverse es) (sym c.give_room_back.ensures.same) in
    walks_on c.args.plan.now c.args.limits c.args.feeds c.args.index c.loop-entry.actor c.arrives_as_read.new.actor c.loop-entry.stamps c.push.new.self (reverse c.loop-entry.rest.items) (reverse c.give_room_back.new.items.items) c.args.entries c.in-Some.entry c.loop-entry.invariant here
    e.step e.setting e.sources (e.many ∙ c.len-in-Some.ensures.count) (e.as_read same) c.in_ok-push.ensures.ok
