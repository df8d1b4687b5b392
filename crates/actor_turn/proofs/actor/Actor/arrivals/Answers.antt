use Rattle.std.proofs.Common.{◌∙◌, ap, sym, length}
use Rattle.std.proofs.lemmas.List.{length-map}
use Rattle.mailbox_core.specs.Mail.{Received}
use Rattle.actor_turn.specs.Held.{Held}
use Rattle.actor_turn.proofs.PartsLemmas.{entries_count}
use Rattle.actor_turn.proofs.actor.Actor.arrivals.Goals as goal

pub returns : goal.returns
returns c =
    let a = c.self.inside in
    record {
      count =
          ap length c.messages.ensures.messages
          ∙ length-map a.mail.mail.arrivals (λ (r : Received). r.message)
          ∙ sym (entries_count 1 a.mail.mail.arrivals a.firings.items c.self.invariant.rest.fired)
          ∙ ap (λ (h : Held). length h.state.entries) c.self.view_is;
    }
