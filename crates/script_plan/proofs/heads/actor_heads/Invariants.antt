use Rattle.std.proofs.Common.{◌≡◌, map, take}
use Rattle.script_types.specs.Names.{AreNames, actor_names}
use Rattle.script_plan.specs.Visited.{head_of}
use Rattle.script_plan.proofs.heads.actor_heads.Given as goal

abbrev pub invariant-loop-spelt : goal.invariant-loop-spelt
invariant-loop-spelt l = record { heads : l.actors ≡ map head_of (take l.spelt-index l.names); names : AreNames (actor_names l.actors) }
