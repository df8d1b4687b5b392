use Rattle.std.proofs.Common.{◌≡◌, ◌+◌, ◌-◌, ◌≤◌, ◌^◌, min, length}
use Rattle.log_audit.proofs.rows.row_count.Given as goal

abbrev pub invariant-loop-count : goal.invariant-loop-count
invariant-loop-count l = record {
  left : min (l.count + length l.rest) (2 ^ 64 - 1) ≡ min (length l.fn.rows) (2 ^ 64 - 1);
  small : l.count ≤ 2 ^ 64 - 1;
}

abbrev pub decreases-loop-count : goal.decreases-loop-count
decreases-loop-count l = length l.rest
