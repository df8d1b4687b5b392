use Rattle.std.proofs.Common.{◌≡◌, ◌++◌, [], drop, take}
use Rattle.waiting_reasons.specs.Text.{value_notes}
use Rattle.waiting_reasons.proofs.values.write_value_notes.Given as goal

-- what is written, and the places that are left behind the others
abbrev pub invariant-loop-index : goal.invariant-loop-index
invariant-loop-index l = l.text ++ value_notes l.variables l.messages l.slots (take l.index l.places) (drop l.index l.places) ≡ l.initial.text ++ value_notes l.variables l.messages l.slots [] l.places
