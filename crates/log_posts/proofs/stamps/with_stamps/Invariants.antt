use Rattle.std.proofs.Common.{◌≡◌, ◌++◌, ◌-◌, take, drop, length}
use Rattle.log_posts.specs.Stamps.{with_stamps}
use Rattle.log_posts.proofs.stamps.with_stamps.Given as goal

abbrev pub invariant-loop-place : goal.invariant-loop-place
invariant-loop-place l = record {
  left : take l.place l.rows.items ++ with_stamps (drop l.place l.stamps) (drop l.place l.rows.items) ≡ with_stamps l.stamps l.initial.rows.items;
  same : length l.rows.items ≡ length l.initial.rows.items;
}

abbrev pub decreases-loop-place : goal.decreases-loop-place
decreases-loop-place l = l.count - l.place
