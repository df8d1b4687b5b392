use Rattle.actor_cells.proofs.SetLemmas.{empty-digits}
use Rattle.actor_cells.proofs.actor_set.ActorSet.is_empty.Goals as goal

pub returns : goal.returns
returns c = empty-digits c.self.inside.bits c.args.self c.self.invariant c.self.view_is
