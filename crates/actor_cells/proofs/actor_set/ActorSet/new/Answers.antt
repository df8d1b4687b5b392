use Rattle.actor_cells.proofs.SetLemmas.{digits-none}
use Rattle.actor_cells.proofs.actor_set.ActorSet.new.Goals as goal

pub returns : goal.returns
returns c = digits-none
