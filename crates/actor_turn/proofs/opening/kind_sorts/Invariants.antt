use Rattle.std.proofs.Common.{◌≡◌, take}
use Rattle.script_types.specs.Typed.{kind_types}
use Rattle.actor_turn.proofs.opening.kind_sorts.Given as goal

abbrev pub invariant-loop-kind : goal.invariant-loop-kind
invariant-loop-kind l = l.sorts ≡ kind_types (take l.kind-index l.kind-items)
