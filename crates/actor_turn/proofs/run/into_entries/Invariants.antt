use Rattle.std.proofs.Common.{◌≡◌, ◌+◌, ◌≤◌, ◌++◌, length, vec_len, vec_capacity}
use Rattle.std.specs.Prelude.{reverse}
use Rattle.mailbox_core.specs.Mail.{received_of}
use Rattle.actor_turn.specs.Parts.{entries_of}
use Rattle.actor_turn.proofs.run.into_entries.Given as goal

abbrev pub invariant-loop-message : goal.invariant-loop-message
invariant-loop-message l = record {
  marked : length l.marks.items ≡ length l.messages.items;
  fired : length l.firings.items ≡ length l.messages.items;
  few : length l.messages.items ≤ 1000000;
  room : vec_len l.entries + length l.messages.items ≤ vec_capacity l.entries;
  told : entries_of 1 (received_of l.messages.items l.marks.items) l.firings.items ++ reverse l.entries.items ≡ entries_of 1 (received_of l.initial.messages.items l.initial.marks.items) l.initial.firings.items;
}

abbrev pub decreases-loop-message : goal.decreases-loop-message
decreases-loop-message l = length l.messages.items
