use Rattle.std.proofs.Common.{◌≡◌, ◌++◌, take}
use Rattle.std.specs.List.{flat_map}
use Rattle.plan_text.specs.PlanText.{actor_lines}
use Rattle.plan_text.proofs.print.write_actors.Given as goal

abbrev pub invariant-loop-actor : goal.invariant-loop-actor
invariant-loop-actor l = l.text ≡ l.initial.text ++ flat_map (actor_lines l.plan) (take l.actor-index l.actors)
