use Rattle.std.proofs.Common.{◌≡◌, drop}
use Rattle.pattern_core.specs.Matches.{is_full}
use Rattle.pattern_core.proofs.extend.is_full.Given as goal

-- the patterns that are left decide
abbrev pub invariant-loop-pattern : goal.invariant-loop-pattern
invariant-loop-pattern l = is_full (drop l.pattern l.slots) ≡ is_full l.slots
