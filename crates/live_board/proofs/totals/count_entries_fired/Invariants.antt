use Rattle.std.proofs.Common.{◌≡◌, ◌≤◌, ◌+◌, drop, map}
use Rattle.std.specs.List.{count_by}
use Rattle.std.specs.Option.{is_some}
use Rattle.fair_semantics.specs.declared.run.Entry.{Entry}
use Rattle.live_board.proofs.totals.count_entries_fired.Given as goal

abbrev pub invariant-loop-entry : goal.invariant-loop-entry
invariant-loop-entry l = record {
  left : l.count + count_by is_some (map (λ (entry : Entry). entry.firing) (drop l.entry-index l.entries)) ≡ count_by is_some (map (λ (entry : Entry). entry.firing) l.entries);
  few : l.count ≤ l.entry-index;
}
