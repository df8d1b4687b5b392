use Rattle.std.proofs.Common.{◌∙◌}
use Rattle.script_types.specs.declared.plan.ActorPlan.{ActorPlan}
use Rattle.sensor_feed.proofs.NameLemmas.{number_placed}
use Rattle.sensor_feed.proofs.names.actor_among.Goals as goal

pub returns-clause-first : goal.returns-clause-first
returns-clause-first c = c.actor_place.ensures.place ∙ number_placed (λ (actor : ActorPlan). actor.name) c.args.name.now c.args.actors.now
