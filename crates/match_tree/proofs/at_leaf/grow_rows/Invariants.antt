use Rattle.std.proofs.Common.{◌≡◌, ◌-◌, ◌≤◌, ◌++◌, [], ℕ, length, replicate}
use Rattle.match_tree.proofs.at_leaf.grow_rows.Given as goal

abbrev pub invariant-loop-rows : goal.invariant-loop-rows
invariant-loop-rows l = record {
  few : length l.rows.items ≤ 8;
  same : (k : ℕ) × (l.rows.items ≡ l.initial.rows.items ++ replicate k []);
}

abbrev pub decreases-loop-rows : goal.decreases-loop-rows
decreases-loop-rows l = l.count - length l.rows.items
