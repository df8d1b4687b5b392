use Rattle.actor_cells.specs.Targets.{AreTargets}
use Rattle.actor_cells.proofs.targets.targets_of.Given as goal

abbrev pub invariant-loop-target : goal.invariant-loop-target
invariant-loop-target l = AreTargets l.target l.rules l.targets.items
