use Rattle.std.proofs.Common.{◌≡◌, ◌++◌, drop}
use Rattle.feed_causes.specs.Search.{rows_from}
use Rattle.feed_causes.proofs.rows.rows_of.Given as goal

abbrev pub invariant-loop-place : goal.invariant-loop-place
invariant-loop-place l = l.rows ++ rows_from l.all l.place (drop l.place l.marks) ≡ rows_from l.all 0 l.marks
