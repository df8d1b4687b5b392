use Rattle.std.proofs.Common.{◌≡◌, take}
use Rattle.pattern_core.specs.Matches.{usable}
use Rattle.waiting_reasons.proofs.messages.usable.Given as goal

abbrev pub invariant-loop-number : goal.invariant-loop-number
invariant-loop-number l = l.found ≡ usable l.messages (take l.number-index l.left) l.kind l.slots
