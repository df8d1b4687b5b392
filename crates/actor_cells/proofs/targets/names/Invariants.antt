use Rattle.std.proofs.Common.{◌≡◌, drop}
use Rattle.actor_cells.specs.Lawful.{names_target}
use Rattle.actor_cells.proofs.targets.names.Given as goal

abbrev pub invariant-loop-rule : goal.invariant-loop-rule
invariant-loop-rule l = names_target (drop l.rule-index l.rule-items) l.target ≡ names_target l.rule-items l.target
