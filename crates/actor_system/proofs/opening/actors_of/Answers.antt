use Rattle.std.proofs.Common.{◌∙◌}
use Rattle.actor_system.proofs.OpeningLemmas.{actors_more, rules_more}
use Rattle.actor_system.proofs.opening.actors_of.Goals as goal

pub loop-index-preserved : goal.loop-index-preserved
loop-index-preserved c = record {
  actors = c.in_ok-push.ensures.items ∙ actors_more c.args.plan.now c.args.limits c.args.feeds c.loop-index.index c.loop-index.actors.items c.in_ok-new.field-0 c.loop-index.invariant.actors c.in_ok-new.ensures.opening;
  rules = rules_more c.args.plan.now c.args.limits c.loop-index.index c.loop-index.invariant.rules c.in_ok-new.ensures.texts;
}
