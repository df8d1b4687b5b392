use Rattle.std.proofs.Common.{◌≡◌, take}
use Rattle.tree_rows.proofs.row.many_leaves.Given as goal

-- so many leaves stand in tiers
abbrev pub invariant-loop-place : goal.invariant-loop-place
invariant-loop-place l = l.many ≡ take l.place l.leaves.items
