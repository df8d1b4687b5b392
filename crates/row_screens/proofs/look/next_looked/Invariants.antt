use Rattle.std.proofs.Common.{◌≡◌, ◌+◌, ◌≤◌, length}
use Rattle.value_index.specs.ValueRange.{Ascend}
use Rattle.row_screens.specs.Offering.{offered}
use Rattle.row_screens.specs.Screen.{AreWorthless}
use Rattle.row_screens.specs.Look.{AreLeft}
use Rattle.row_screens.proofs.look.next_looked.Given as goal

-- no more numbers were looked at than places were passed; those of the row that are worth a visit are among the numbers that are left
abbrev pub invariant-loop-number : goal.invariant-loop-number
invariant-loop-number g l = record {
  from : l.from ≤ l.looked;
  order : l.looked ≤ l.place;
  within : l.place ≤ length l.row;
  ascend : Ascend l.left;
  worthless : AreWorthless (offered l.offer) l.slots l.pattern l.row l.from l.place;
  left : AreLeft (offered l.offer) l.slots l.pattern l.row l.place l.left;
  counted : l.steps + l.from ≡ l.fn.steps + l.looked;
}

abbrev pub decreases-loop-number : goal.decreases-loop-number
decreases-loop-number g l = length l.left
