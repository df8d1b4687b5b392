use Rattle.std.proofs.Common.{◌≡◌, ◌∙◌, length, sym, ap, arith}
use Rattle.actor_turn.specs.Parts.{entries_of}
use Rattle.actor_turn.proofs.EntryLemmas.{source_at}
use Rattle.actor_turn.proofs.PartsLemmas.{entries_count}
use Rattle.actor_turn.proofs.actor.Actor.source_of.Goals as goal

pub source_of-requires : goal.source_of-requires
source_of-requires c =
    let entries : entries_of 1 c.self.inside.mail.mail.arrivals c.self.inside.firings.items ≡ c.args.self.now.state.entries = ap (λ h. h.state.entries) c.self.view_is in
    let as_many = ap length entries in
    let count = entries_count 1 c.self.inside.mail.mail.arrivals c.self.inside.firings.items c.self.invariant.rest.fired in
    let some = c.requires.recorded.0 in
    let most = c.requires.recorded.1 in
    record { recorded = (some, omega arith) }

pub returns : goal.returns
returns c =
    let entries : entries_of 1 c.self.inside.mail.mail.arrivals c.self.inside.firings.items ≡ c.args.self.now.state.entries = ap (λ h. h.state.entries) c.self.view_is in
    record { source = rw (← entries) (source_at 1 c.self.inside.mail.mail.arrivals c.self.inside.firings.items _ c.source_of.result c.self.invariant.rest.fired c.source_of.ensures.source) }
