use Rattle.uses.proofs.OneActorLemmas.{fired_rules}
use Rattle.uses.proofs.one_actor.counted_rules.Goals as goal

pub returns : goal.returns
returns g c = record {
  fired = fired_rules _ _ _ c.args.messages.now _ _ _ _ c.in_ok-actor.ensures.opening c.in_ok-feed_all.ensures.fair c.firings.ensures.fired c.in_ok-rules.ensures;
}
