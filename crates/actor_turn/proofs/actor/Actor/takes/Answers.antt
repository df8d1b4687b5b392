use Rattle.std.proofs.Common.{rules, ◌≡◌, ◌∙◌, ◌<◌, ◌≤◌, length, ap, sym, arith}
use Rattle.std.specs.Prelude.{Bool, true, max, not, ◌&&◌, nat_lt}
use Rattle.std.proofs.lemmas.List.{length-map}
use Rattle.join_base.specs.Stamps.{greatest_stamp}
use Rattle.mailbox_core.specs.Mail.{Received}
use Rattle.fair_semantics.specs.Step.{is_refused, is_running}
use Rattle.actor_turn.specs.Held.{Held, is_taken}
use Rattle.actor_turn.specs.Inside.{held_of, setting_in}
use Rattle.actor_turn.proofs.PartsLemmas.{entries_count, entries_latest}
use Rattle.actor_turn.proofs.RestLemmas.{full_refused, rest_taken}
use Rattle.actor_turn.proofs.actor.Actor.takes.Goals as goal

pub returns-then-messages-self : goal.returns-then-messages-self
returns-then-messages-self c =
    let a = c.self.inside in
    let messages = ap length c.messages.ensures.messages ∙ length-map a.mail.mail.arrivals (λ (r : Received). r.message) in
    let entries = entries_count 1 a.mail.mail.arrivals a.firings.items c.self.invariant.rest.fired in
    let full : a.limits.arrivals ≤ length (held_of a).state.entries = omega (arith, c.if-messages-self.true) in
    let running : is_running a.ending ≡ true = search rules in
    full_refused (setting_in a) (held_of a).state c.args.message.now c.args.stamp full
    ∙ sym (ap (λ (b : Bool). b && not (is_refused (setting_in a) (held_of a).state c.args.message.now c.args.stamp)) running)
    ∙ ap (λ (h : Held). is_taken h.setting h.state c.args.message.now c.args.stamp) c.self.view_is

pub returns : goal.returns
returns c =
    let a = c.self.inside in
    let messages = ap length c.messages.ensures.messages ∙ length-map a.mail.mail.arrivals (λ (r : Received). r.message) in
    let entries = entries_count 1 a.mail.mail.arrivals a.firings.items c.self.invariant.rest.fired in
    let room : length (held_of a).state.entries < a.limits.arrivals = omega (arith, c.if-messages-self.false) in
    let stamp = c.max.ensures ∙ ap (λ n. max n c.args.stamp) (c.latest.ensures.latest ∙ sym (entries_latest 1 0 a.mail.mail.arrivals a.firings.items c.self.invariant.rest.fired)) in
    let running : is_running a.ending ≡ true = search rules in
    ap (λ n. nat_lt n greatest_stamp) stamp
    ∙ rest_taken (setting_in a) (held_of a).state c.args.message.now c.args.stamp room (sym c.if-not-fits.ensures)
    ∙ sym (ap (λ (b : Bool). b && not (is_refused (setting_in a) (held_of a).state c.args.message.now c.args.stamp)) running)
    ∙ ap (λ (h : Held). is_taken h.setting h.state c.args.message.now c.args.stamp) c.self.view_is
