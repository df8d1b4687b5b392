use Rattle.std.proofs.Common.{sym, subst}
use Rattle.actor_cells.specs.Targets.{AreTargets}
use Rattle.actor_cells.proofs.TargetLemmas.{targets-none}
use Rattle.actor_cells.proofs.targets.targets_of.Goals as goal

pub loop-target-init : goal.loop-target-init
loop-target-init c = subst (AreTargets 0 c.args.rules.now) (sym c.new-targets.ensures.items) (targets-none c.args.rules.now)
