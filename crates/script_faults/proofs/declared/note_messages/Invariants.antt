use Rattle.std.proofs.Common.{◌≡◌, drop}
use Rattle.std.specs.List.{flat_map}
use Rattle.script_faults.specs.First.{first_of}
use Rattle.script_faults.specs.Faults.{message_faults}
use Rattle.script_faults.proofs.declared.note_messages.Given as goal

abbrev pub invariant-loop-message : goal.invariant-loop-message
invariant-loop-message l = first_of l.found (flat_map message_faults (drop l.message-index l.messages)) ≡ first_of l.initial.found (flat_map message_faults l.messages)
