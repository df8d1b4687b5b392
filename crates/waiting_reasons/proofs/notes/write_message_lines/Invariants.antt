use Rattle.std.proofs.Common.{◌≡◌, ◌++◌, take}
use Rattle.std.specs.List.{flat_map}
use Rattle.waiting_reasons.specs.Text.{message_line}
use Rattle.waiting_reasons.proofs.notes.write_message_lines.Given as goal

abbrev pub invariant-loop-number : goal.invariant-loop-number
invariant-loop-number l = l.text ≡ l.initial.text ++ flat_map (message_line l.plan l.rules l.messages l.left) (take l.number-index l.left)
