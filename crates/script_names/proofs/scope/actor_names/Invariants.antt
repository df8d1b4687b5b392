use Rattle.std.proofs.Common.{◌≡◌, take}
use Rattle.script_names.specs.Scope.{spelt_rows}
use Rattle.script_names.proofs.scope.actor_names.Given as goal

abbrev pub invariant-loop-actor : goal.invariant-loop-actor
invariant-loop-actor l = l.names ≡ spelt_rows (take l.actor-index l.actors)
