use Rattle.std.proofs.Common.{◌≡◌, ◌∙◌, ap, sym}
use Rattle.mailbox_core.specs.Mail.{received_of}
use Rattle.fair_semantics.specs.declared.run.ActorRun.{ActorRun}
use Rattle.fair_semantics.specs.Fair.{partials_of, run_of}
use Rattle.actor_turn.specs.Held.{Held}
use Rattle.actor_turn.specs.Inside.{held_of}
use Rattle.actor_turn.specs.Parts.{entries_of}
use Rattle.actor_turn.proofs.PartsLemmas.{received_again}
use Rattle.actor_turn.proofs.actor.Actor.into_run.Goals as goal

pub returns-clause-run : goal.returns-clause-run
returns-clause-run c =
    let a = c.self.inside in
    let e = c.into_parts-parts.ensures in
    let arrivals = (λ i. received_of (e.messages i) (e.marks i)) ∙ received_again a.mail.mail.arrivals in
    let entries = c.into_entries.ensures ∙ (λ i. entries_of 1 (arrivals i) (c.into_vec.ensures.items i)) in
    let partials = c.partials-partials.ensures.count ∙ ap (λ (h : Held). partials_of h.setting.rules h.state) (sym c.self.view_is) in
    let run : ◌≡◌ {A = ActorRun} (record { entries = c.into_entries.result; late = c.into_parts-parts.result.late; ending = a.ending; left = c.into_parts-parts.result.left; partials = c.partials-partials.result }) (run_of (held_of a).setting.rules (held_of a).state)
    = λ i. record { entries = entries i; late = e.late i; ending = a.ending; left = e.left i; partials = partials i } in
    run ∙ ap (λ (h : Held). run_of h.setting.rules h.state) c.self.view_is
