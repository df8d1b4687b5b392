use Rattle.std.proofs.Common.{◌≡◌, ◌++◌, take}
use Rattle.std.specs.List.{flat_map}
use Rattle.arrival_log.specs.LogText.{entry_lines}
use Rattle.arrival_log.proofs.lines.write_entries.Given as goal

abbrev pub invariant-loop-entry : goal.invariant-loop-entry
invariant-loop-entry l = l.text ≡ l.initial.text ++ flat_map (entry_lines l.plan l.fn.version) (take l.entry-index l.entries)
