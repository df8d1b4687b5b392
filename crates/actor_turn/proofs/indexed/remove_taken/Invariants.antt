use Rattle.std.proofs.Common.{◌≡◌, ℕ, take}
use Rattle.pattern_core.specs.Members.{IsIn}
use Rattle.value_index.specs.Index.{AddsNone}
use Rattle.actor_turn.specs.Indexed.{KeepsUntaken, LacksTaken}
use Rattle.actor_turn.proofs.indexed.remove_taken.Given as goal

-- the numbers so far are gone
abbrev pub invariant-loop-number : goal.invariant-loop-number
invariant-loop-number l = record {
  fields : l.index.fields ≡ l.initial.index.fields;
  others : KeepsUntaken l.taken l.initial.index.entries l.index.entries;
  adds_none : AddsNone l.initial.index.entries l.index.entries;
  gone : LacksTaken (take l.number-index l.taken) l.index l.messages;
}
