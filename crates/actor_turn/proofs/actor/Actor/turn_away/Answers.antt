use Rattle.std.proofs.Common.{rules, true, false, ◌≡◌, ◌∙◌, List, drop, length, map, refl, ap, sym, subst, arith}
use Rattle.std.proofs.lemmas.List.{take_at}
use Rattle.std.specs.Vec.{with_items}
use Rattle.join_base.specs.Late.{late_more}
use Rattle.mailbox_core.specs.Mail.{Mail}
use Rattle.tree_law.specs.Trees.{cleared_tree}
use Rattle.fair_semantics.specs.declared.run.Entry.{Entry}
use Rattle.fair_semantics.specs.declared.run.Outcome.TheVariants.{Late, Spent}
use Rattle.fair_semantics.specs.Step.{fair_step, is_running}
use Rattle.actor_turn.specs.Held.{Held, history_with, is_taken, new_entries, posts_behind}
use Rattle.actor_turn.specs.Indexed.{IsIndexOf}
use Rattle.actor_turn.specs.Inside.{IsAtRest, held_of, setting_in}
use Rattle.actor_turn.specs.Parts.{entries_of, history_in, state_of}
use Rattle.actor_turn.proofs.HeldLemmas.{none_waits, partial_held}
use Rattle.actor_turn.proofs.HistoryLemmas.{history_same}
use Rattle.actor_turn.proofs.IndexLemmas.{spent_index}
use Rattle.actor_turn.proofs.PostsLemmas.{no_posts}
use Rattle.actor_turn.proofs.RestLemmas.{late_is, late_rest, none_new, spent_is, spent_rest}
use Rattle.actor_turn.proofs.actor.Actor.turn_away.Goals.{After-add_late, After-spend}
use Rattle.actor_turn.proofs.actor.Actor.turn_away.Goals as goal

-- what is kept inside of an actor that had ended, and of one that ends
late_inside : (c : After-add_late) → IsAtRest (setting_in c.self.inside) c.add_late.new.self.mail c.self.inside.firings.items c.self.inside.ending c.self.inside.trees.items
late_inside c =
    let a = c.self.inside in
    late_rest (setting_in a) a.mail.mail c.add_late.new.self.mail (late_more a.mail.mail.late c.args.source) a.firings.items a.ending a.trees.items c.add_late.ensures.late c.self.invariant.rest

spent_inside : (c : After-spend) → IsAtRest (setting_in c.self.inside) c.spend.new.mail.mail c.self.inside.firings.items c.spend.new.ending (with_items c.self.inside.trees c.spend.new.trees).items
spent_inside c =
    let a = c.self.inside in
    let i = c.self.invariant in
    let e = c.spend.ensures in
    let long : length c.spend.new.trees ≡ a.trees.len = omega (arith, c.spend.auto.trees, c.deref_mut.ensures.len) in
    let left = take_at c.spend.new.trees (drop (length c.spend.new.trees) a.trees.items) a.trees.len long in
    let trees = left ∙ e.trees ∙ ap (map cleared_tree) c.deref_mut.ensures.value in
    spent_rest (length a.outboxes.items) (setting_in a) a.mail.mail c.spend.new.mail.mail (late_more a.mail.mail.late c.args.source) c.args.source a.firings.items a.ending c.spend.new.ending a.trees.items _ e.mail e.ending trees i.told i.rest

pub invariant_of-self : goal.invariant_of-self
invariant_of-self c =
    let i = c.self.invariant in
    let count = ap (λ (m : Mail). length m.arrivals) c.add_late.ensures.late in
    record { told = i.told; rest = late_inside (goal.at.invariant_of-self c).After-add_late; indexed = subst (IsIndexOf c.self.inside.index) (sym c.add_late.ensures.late) (record { live = i.indexed.live; consumed = i.indexed.consumed }); none = i.none; room = omega (arith, i.room) }

pub returns-then-not-runs-clause-partial : goal.returns-then-not-runs-clause-partial
returns-then-not-runs-clause-partial c =
    let a = c.self.inside in
    partial_held (setting_in a) c.add_late.new.self.mail a.firings.items a.ending a.trees.items _ _ (late_inside (goal.at.returns-then-not-runs-clause-partial c).After-add_late)

pub returns-then-not-runs-clause-waits : goal.returns-then-not-runs-clause-waits
returns-then-not-runs-clause-waits c =
    let a = c.self.inside in
    none_waits (setting_in a) c.add_late.new.self.mail a.firings.items a.ending a.trees.items _ _ (late_inside (goal.at.returns-then-not-runs-clause-waits c).After-add_late)

pub returns-then-not-runs-clause-outbox : goal.returns-then-not-runs-clause-outbox
returns-then-not-runs-clause-outbox c =
    let a = c.self.inside in
    let outbox = (held_of a).outbox in
    let news = ap (λ (m : Mail). new_entries (held_of a).state (state_of m a.firings.items a.ending)) c.add_late.ensures.late ∙ none_new (entries_of 1 a.mail.mail.arrivals a.firings.items) in
    subst (λ (h : Held). outbox ≡ posts_behind 0 (new_entries h.state (state_of c.add_late.new.self.mail a.firings.items a.ending)) h.outbox) c.self.view_is
    (no_posts 0 outbox ∙ ap (λ (es : List Entry). posts_behind 0 es outbox) (sym news))

pub invariant_of-self-2 : goal.invariant_of-self-2
invariant_of-self-2 c =
    let i = c.self.invariant in
    let count = ap (λ (m : Mail). length m.arrivals) c.spend.ensures.mail in
    record { told = i.told; rest = spent_inside (goal.at.invariant_of-self-2 c).After-spend; indexed = spent_index c.clear.new.self c.spend.new.mail.mail (ap (λ (m : Mail). m.live) c.spend.ensures.mail) c.clear.ensures.entries; none = i.none; room = omega (arith, i.room) }

pub returns-clause-partial : goal.returns-clause-partial
returns-clause-partial c =
    let a = c.self.inside in
    partial_held (setting_in a) c.spend.new.mail.mail a.firings.items c.spend.new.ending (with_items a.trees c.spend.new.trees).items _ _ (spent_inside (goal.at.returns-clause-partial c).After-spend)

pub returns-clause-waits : goal.returns-clause-waits
returns-clause-waits c =
    let a = c.self.inside in
    none_waits (setting_in a) c.spend.new.mail.mail a.firings.items c.spend.new.ending (with_items a.trees c.spend.new.trees).items _ _ (spent_inside (goal.at.returns-clause-waits c).After-spend)

pub returns-clause-outbox : goal.returns-clause-outbox
returns-clause-outbox c =
    let a = c.self.inside in
    let outbox = (held_of a).outbox in
    let news = ap (λ (m : Mail). new_entries (held_of a).state (state_of m a.firings.items c.spend.new.ending)) c.spend.ensures.mail ∙ none_new (entries_of 1 a.mail.mail.arrivals a.firings.items) in
    subst (λ (h : Held). outbox ≡ posts_behind 0 (new_entries h.state (state_of c.spend.new.mail.mail a.firings.items c.spend.new.ending)) h.outbox) c.self.view_is
    (no_posts 0 outbox ∙ ap (λ (es : List Entry). posts_behind 0 es outbox) (sym news))

pub returns-then-not-runs-clause-step : goal.returns-then-not-runs-clause-step
returns-then-not-runs-clause-step c message stamp away =
    let a = c.self.inside in
    let ended : is_running a.ending ≡ false = search rules in
    subst (λ (h : Held). fair_step h.setting h.state c.args.source message stamp ≡ (state_of c.add_late.new.self.mail a.firings.items a.ending, Late)) c.self.view_is
    (late_is (setting_in a) (held_of a).state message stamp c.args.source ended ∙ ap (λ (m : Mail). (state_of m a.firings.items a.ending, Late)) (sym c.add_late.ensures.late))

pub returns-clause-step : goal.returns-clause-step
returns-clause-step c message stamp away =
    let a = c.self.inside in
    let running : is_running a.ending ≡ true = search rules in
    let same = subst (λ (h : Held). is_taken h.setting h.state message stamp ≡ false) (sym c.self.view_is) away in
    subst (λ (h : Held). fair_step h.setting h.state c.args.source message stamp ≡ (state_of c.spend.new.mail.mail a.firings.items c.spend.new.ending, Spent)) c.self.view_is
    (spent_is (setting_in a) (held_of a).state message stamp c.args.source running same
    ∙ (λ i. (state_of (sym c.spend.ensures.mail i) a.firings.items (sym c.spend.ensures.ending i), Spent)))

pub returns-then-not-runs-clause-history : goal.returns-then-not-runs-clause-history
returns-then-not-runs-clause-history c message stamp away =
    let a = c.self.inside in
    let same = subst (λ (h : Held). is_taken h.setting h.state message stamp ≡ false) (sym c.self.view_is) away in
    subst (λ (h : Held). history_in c.add_late.new.self.mail.arrivals ≡ history_with h c.args.source message stamp) c.self.view_is
    (history_same (held_of a) a.mail.mail c.args.source message stamp refl c.add_late.new.self.mail same (ap (λ (m : Mail). m.arrivals) c.add_late.ensures.late))

pub returns-clause-history : goal.returns-clause-history
returns-clause-history c message stamp away =
    let a = c.self.inside in
    let same = subst (λ (h : Held). is_taken h.setting h.state message stamp ≡ false) (sym c.self.view_is) away in
    subst (λ (h : Held). history_in c.spend.new.mail.mail.arrivals ≡ history_with h c.args.source message stamp) c.self.view_is
    (history_same (held_of a) a.mail.mail c.args.source message stamp refl c.spend.new.mail.mail same (ap (λ (m : Mail). m.arrivals) c.spend.ensures.mail))
