use Rattle.building_load.proofs.TypedLemmas.{typed_parts}
use Rattle.building_load.proofs.plan.load_plan.Goals as goal

pub returns-clause-typed : goal.returns-clause-typed
returns-clause-typed c = typed_parts _ _ c.in_ok-kinds.ensures c.in_ok-actors.ensures
