use Rattle.std.proofs.Common.{◌≡◌, ◌≤◌, ◌+◌, ◌*◌, drop, map}
use Rattle.std.specs.List.{sum_by}
use Rattle.fair_semantics.specs.declared.run.Entry.{Entry}
use Rattle.actor_turn.specs.Counts.{post_count}
use Rattle.live_board.proofs.totals.sum_entry_posts.Given as goal

abbrev pub invariant-loop-entry : goal.invariant-loop-entry
invariant-loop-entry l = record {
  left : l.posts + sum_by post_count (map (λ (entry : Entry). entry.firing) (drop l.entry-index l.entries)) ≡ sum_by post_count (map (λ (entry : Entry). entry.firing) l.entries);
  bounded : l.posts ≤ l.entry-index * 18446744073709551615;
}
