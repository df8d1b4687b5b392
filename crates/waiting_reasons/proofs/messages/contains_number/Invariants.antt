use Rattle.std.proofs.Common.{◌≡◌, drop}
use Rattle.join_base.specs.Taken.{contains_number}
use Rattle.waiting_reasons.proofs.messages.contains_number.Given as goal

-- the numbers that are left decide
abbrev pub invariant-loop-other : goal.invariant-loop-other
invariant-loop-other l = contains_number (drop l.other-index l.numbers) l.number ≡ contains_number l.numbers l.number
