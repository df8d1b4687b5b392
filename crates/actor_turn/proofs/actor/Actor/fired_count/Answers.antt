use Rattle.std.proofs.Common.{◌∙◌, ap, map}
use Rattle.fair_semantics.specs.declared.run.Entry.{Entry}
use Rattle.actor_turn.specs.Counts.{fired_among}
use Rattle.actor_turn.specs.Held.{Held}
use Rattle.actor_turn.proofs.PartsLemmas.{entries_firings}
use Rattle.actor_turn.proofs.actor.Actor.fired_count.Goals as goal

pub returns : goal.returns
returns c =
    let a = c.self.inside in
    let fired =
    entries_firings 1 a.mail.mail.arrivals a.firings.items c.self.invariant.rest.fired
    ∙ ap (λ (h : Held). map (λ (e : Entry). e.firing) h.state.entries) c.self.view_is in
    record { count = c.fired_count.ensures.count ∙ ap fired_among fired }
