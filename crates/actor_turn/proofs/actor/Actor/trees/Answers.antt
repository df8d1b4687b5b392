use Rattle.std.proofs.Common.{subst}
use Rattle.actor_turn.specs.Inside.{setting_in}
use Rattle.actor_turn.specs.Rest.{HoldsPartialMatches, NoMatchWaits}
use Rattle.actor_turn.proofs.HeldLemmas.{none_waits, partial_held}
use Rattle.actor_turn.proofs.actor.Actor.trees.Goals as goal

pub returns-clause-partial : goal.returns-clause-partial
returns-clause-partial c =
    let a = c.self.inside in
    subst HoldsPartialMatches c.self.view_is (partial_held (setting_in a) a.mail.mail a.firings.items a.ending a.trees.items _ _ c.self.invariant.rest)

pub returns-clause-waits : goal.returns-clause-waits
returns-clause-waits c =
    let a = c.self.inside in
    subst NoMatchWaits c.self.view_is (none_waits (setting_in a) a.mail.mail a.firings.items a.ending a.trees.items _ _ c.self.invariant.rest)
