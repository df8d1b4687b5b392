use Rattle.row_screens.specs.Range.{AreEnds}
use Rattle.row_screens.proofs.range.ends_of.Given as goal

-- those that are known so far are of the bounds
abbrev pub invariant-loop-bound : goal.invariant-loop-bound
invariant-loop-bound l = AreEnds l.bounds l.field l.ends
