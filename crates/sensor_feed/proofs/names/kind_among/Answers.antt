use Rattle.std.proofs.Common.{◌∙◌}
use Rattle.script_types.specs.declared.plan.Kind.{Kind}
use Rattle.sensor_feed.proofs.NameLemmas.{number_placed}
use Rattle.sensor_feed.proofs.names.kind_among.Goals as goal

pub returns-clause-first : goal.returns-clause-first
returns-clause-first c = c.kind_place.ensures.place ∙ number_placed (λ (kind : Kind). kind.name) c.args.name.now c.args.kinds.now
