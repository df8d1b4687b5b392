use Rattle.std.proofs.Common.{ℕ, suc, ◌≡◌, ◌<◌, ◌≤◌, ◌-◌, length, slice_index}
use Rattle.tiered_vec.proofs.block.Block.first_from.Given as goal

-- The number before `from` is less, and that at `end` is not.
abbrev pub invariant-loop-from : goal.invariant-loop-from
invariant-loop-from l = record {
  order : l.from ≤ l.end;
  within : l.end ≤ length l.self-inside.numbers.items;
  less : (i : ℕ) → suc i ≡ l.from → slice_index l.self-inside.numbers.items i < l.number;
  reached : l.end < length l.self-inside.numbers.items → l.number ≤ slice_index l.self-inside.numbers.items l.end;
}

abbrev pub decreases-loop-from : goal.decreases-loop-from
decreases-loop-from l = l.end - l.from
