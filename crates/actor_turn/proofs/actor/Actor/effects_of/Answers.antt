use Rattle.std.proofs.Common.{◌≡◌, ◌∙◌, ◌-◌, ◌<◌, length, sym, ap, arith}
use Rattle.fair_semantics.specs.Linked.{firing_effects}
use Rattle.actor_turn.proofs.EntryLemmas.{effects_at}
use Rattle.actor_turn.proofs.actor.Actor.effects_of.Goals as goal

pub returns-in-None : goal.returns-in-None
returns-in-None c =
    let some = c.requires.recorded.0 in
    let most = c.requires.recorded.1 in
    let within : c.args.number - 1 < length c.args.self.now.state.entries = omega arith in
    record { effects = effects_at c.firings.result.now c.args.self.now.state.entries (c.args.number - 1) c.index-firings-number.result _ c.firings.ensures.fired within c.index-firings-number.is (ap firing_effects c.in-None.ensures.same) }

pub returns-in-Some : goal.returns-in-Some
returns-in-Some c =
    let some = c.requires.recorded.0 in
    let most = c.requires.recorded.1 in
    let within : c.args.number - 1 < length c.args.self.now.state.entries = omega arith in
    record { effects = effects_at c.firings.result.now c.args.self.now.state.entries (c.args.number - 1) c.index-firings-number.result _ c.firings.ensures.fired within c.index-firings-number.is (ap firing_effects c.in-Some.ensures.same ∙ sym c.as_slice.ensures.same) }
