use Rattle.std.proofs.Common.{ℕ, suc, ◌≡◌, ◌<◌, ◌≤◌, ◌-◌, length, slice_index}
use Rattle.tiered_vec.specs.Tiers.{block_at}
use Rattle.tiered_vec.proofs.tiers.block_from.Given as goal

-- The last number of the block before `from` is less, and that of the block at `end` is not.
abbrev pub invariant-loop-from : goal.invariant-loop-from
invariant-loop-from l = record {
  order : l.from ≤ l.end;
  within : l.end ≤ length l.blocks.items;
  less : (i : ℕ) → suc i ≡ l.from → slice_index (block_at l.blocks.items i) (length (block_at l.blocks.items i) - 1) < l.number;
  reached : l.end < length l.blocks.items → l.number ≤ slice_index (block_at l.blocks.items l.end) (length (block_at l.blocks.items l.end) - 1);
}

abbrev pub decreases-loop-from : goal.decreases-loop-from
decreases-loop-from l = l.end - l.from
