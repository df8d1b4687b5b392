use Rattle.std.proofs.Common.{◌≡◌, ◌+◌, drop}
use Rattle.log_audit.specs.Wrong.{rows_for}
use Rattle.log_audit.proofs.rows.first_row.Given as goal

abbrev pub invariant-loop-place : goal.invariant-loop-place
invariant-loop-place l = record {
  left : rows_for l.actor l.count (drop l.place l.posts) ≡ rows_for l.actor l.fn.before l.posts;
  counted : l.count ≡ l.fn.before + l.place;
}
