use Rattle.std.proofs.Common.{◌≡◌, ◌++◌, drop}
use Rattle.building_load.specs.Summary.{actor_lines}
use Rattle.building_load.proofs.totals.write_actors.Given as goal

abbrev pub invariant-loop-place : goal.invariant-loop-place
invariant-loop-place l = l.text ++ actor_lines (drop l.place l.plan.actors) (drop l.place l.runs) ≡ l.initial.text ++ actor_lines l.plan.actors l.runs
