use Rattle.std.specs.Prelude.{◌≡◌, drop}
use Rattle.join_base.specs.Late.{HasCount}
use Rattle.join_base.specs.declared.message.Source.TheVariants as source
use Rattle.fair_semantics.specs.Fair.{after_all}
use Rattle.uses.specs.OneActor.{from_feed}
use Rattle.uses.proofs.one_actor.feed_all.Given as goal

abbrev pub invariant-loop-message : goal.invariant-loop-message
invariant-loop-message g l = record {
  source : HasCount l.actor.state.late (source.Feed 1);
  setting : l.actor.setting ≡ l.initial.actor.setting;
  fair : after_all l.initial.actor.setting l.actor.state (from_feed (drop l.message-index l.messages)) ≡ after_all l.initial.actor.setting l.initial.actor.state (from_feed l.messages);
}
