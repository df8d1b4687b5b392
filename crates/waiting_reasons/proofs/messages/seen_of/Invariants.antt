use Rattle.std.proofs.Common.{◌≡◌, take}
use Rattle.pattern_core.specs.Window.{seen_of}
use Rattle.waiting_reasons.proofs.messages.seen_of.Given as goal

abbrev pub invariant-loop-number : goal.invariant-loop-number
invariant-loop-number l = l.seen ≡ seen_of l.definition l.recorded (take l.number-index l.left)
