use Rattle.std.proofs.Common.{◌≡◌, ◌+◌, take, min}
use Rattle.join_base.specs.Integer.{value_of}
use Rattle.log_lines.proofs.number.value_up_to.Given as goal

abbrev pub invariant-loop-digit : goal.invariant-loop-digit
invariant-loop-digit l = l.value ≡ min (value_of (take l.digit-index l.digits)) (l.max + 1)
