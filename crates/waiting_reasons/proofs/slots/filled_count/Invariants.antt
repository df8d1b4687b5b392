use Rattle.std.proofs.Common.{◌≡◌, ◌+◌, ◌≤◌, drop}
use Rattle.waiting_reasons.specs.Ways.{filled_count}
use Rattle.waiting_reasons.proofs.slots.filled_count.Given as goal

-- what is counted, and the patterns that are left
abbrev pub invariant-loop-pattern : goal.invariant-loop-pattern
invariant-loop-pattern l = record {
  told : l.count + filled_count (drop l.pattern l.slots) ≡ filled_count l.slots;
  small : l.count ≤ l.pattern;
}
