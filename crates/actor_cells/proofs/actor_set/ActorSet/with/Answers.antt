use Rattle.std.proofs.Common.{◌∙◌, ap, set, true}
use Rattle.actor_cells.proofs.SetLemmas.{digits-past, digits-with}
use Rattle.actor_cells.proofs.actor_set.ActorSet.with.Goals as goal

pub returns-then-actor-ge32 : goal.returns-then-actor-ge32
returns-then-actor-ge32 c = digits-past c.self.inside.bits c.args.actor c.if-actor-ge32.true ∙ ap (λ digits. set digits c.args.actor true) c.self.view_is

pub returns : goal.returns
returns c = digits-with c.self.inside.bits c.args.actor c.if-actor-ge32.false ∙ ap (λ digits. set digits c.args.actor true) c.self.view_is
