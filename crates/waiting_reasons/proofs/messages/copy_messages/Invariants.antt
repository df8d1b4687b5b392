use Rattle.std.proofs.Common.{◌≡◌, ◌++◌, drop}
use Rattle.fair_semantics.specs.Step.{recorded_messages}
use Rattle.waiting_reasons.proofs.messages.copy_messages.Given as goal

-- what is copied, and the messages that are left
abbrev pub invariant-loop-entry : goal.invariant-loop-entry
invariant-loop-entry l = l.messages ++ recorded_messages (drop l.entry-index l.entries) ≡ recorded_messages l.entries
