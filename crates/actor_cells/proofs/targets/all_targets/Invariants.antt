use Rattle.std.proofs.Common.{◌≡◌, length, map, take}
use Rattle.actor_cells.specs.Targets.{AreTargetsOf}
use Rattle.actor_cells.proofs.PrepareLemmas.{numbers_of}
use Rattle.actor_cells.proofs.targets.all_targets.Given as goal

abbrev pub invariant-loop-actor : goal.invariant-loop-actor
invariant-loop-actor l = record {
  count : length l.targets.items ≡ l.actor-index;
  targets : AreTargetsOf l.count (take l.actor-index l.actor-items) (map numbers_of l.targets.items);
}
