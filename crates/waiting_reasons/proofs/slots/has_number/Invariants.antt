use Rattle.std.proofs.Common.{◌≡◌, drop}
use Rattle.pattern_core.specs.Matches.{holds_number}
use Rattle.waiting_reasons.proofs.slots.has_number.Given as goal

-- the patterns that are left decide
abbrev pub invariant-loop-pattern : goal.invariant-loop-pattern
invariant-loop-pattern l = holds_number (drop l.pattern l.slots) l.number ≡ holds_number l.slots l.number
