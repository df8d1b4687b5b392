use Rattle.std.proofs.Common.{◌∙◌, length, ap}
use Rattle.fair_semantics.specs.declared.run.Firing.{Firing}
use Rattle.mailbox_core.specs.Mail.{recorded_messages}
use Rattle.fair_semantics.specs.Step.{body_at, body_of}
use Rattle.actor_turn.proofs.BodiesLemmas.{posts_ready}
use Rattle.actor_turn.proofs.step.fire.Goals as goal

pub send-requires : goal.send-requires
send-requires c = record {
  targets = posts_ready (length c.args.outboxes.now) (recorded_messages c.args.mail.now.mail.arrivals) c.messages.result.now c.args.chosen.taken c.latest.result (body_at c.args.rules.now c.args.chosen.rule) c.at-rule.result.now.body c.as_slice.result.now
      c.messages.ensures.messages (ap body_of c.at-rule.ensures.item) (c.as_slice.ensures.same ∙ ap (λ (f : Firing). f.effects) (c.deref.ensures ∙ c.in_ok-firing.ensures.ok) ∙ c.in_ok-effects.ensures) c.requires.ready;
}
