use Rattle.std.proofs.Common.{◌≡◌, ◌++◌, take}
use Rattle.std.specs.List.{flat_map}
use Rattle.arrival_log.specs.LogText.{late_line}
use Rattle.arrival_log.proofs.lines.write_lates.Given as goal

abbrev pub invariant-loop-source : goal.invariant-loop-source
invariant-loop-source l = l.text ≡ l.initial.text ++ flat_map (late_line l.plan) (take l.source-index l.late)
