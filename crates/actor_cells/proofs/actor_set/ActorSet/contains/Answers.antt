use Rattle.std.proofs.Common.{◌∙◌, ap, get_or, false}
use Rattle.actor_cells.proofs.SetLemmas.{digits-in, digits-out}
use Rattle.actor_cells.proofs.actor_set.ActorSet.contains.Goals as goal

pub returns-then-actor-lt32 : goal.returns-then-actor-lt32
returns-then-actor-lt32 c = digits-in c.self.inside.bits c.args.actor c.if-actor-lt32.true ∙ ap (λ digits. get_or digits c.args.actor false) c.self.view_is

pub returns-else-actor-lt32 : goal.returns-else-actor-lt32
returns-else-actor-lt32 c = digits-out c.self.inside.bits c.args.actor c.if-actor-lt32.false ∙ ap (λ digits. get_or digits c.args.actor false) c.self.view_is
