use Rattle.std.proofs.Common.{◌≡◌, ◌++◌, take}
use Rattle.arrival_log.specs.LogText.{sections}
use Rattle.arrival_log.proofs.print.write_sections.Given as goal

abbrev pub invariant-loop-place : goal.invariant-loop-place
invariant-loop-place l = l.text ≡ l.initial.text ++ sections l.plan l.fn.version (take l.place l.plan.actors) (take l.place l.runs)
