use Rattle.std.specs.Prelude.{◌≡◌, ◌+◌, ◌-◌, ◌≤◌}
use Rattle.row_screens.specs.Offering.{offered}
use Rattle.row_screens.specs.Screen.{AreWorthless}
use Rattle.row_screens.proofs.screen.next_scanned.Given as goal

-- the numbers so far are not worth a visit, and each was counted
abbrev pub invariant-loop-place : goal.invariant-loop-place
invariant-loop-place g l = record {
  from : l.from ≤ l.place;
  within : l.place ≤ l.end;
  worthless : AreWorthless (offered l.offer) l.slots l.pattern l.row l.from l.place;
  counted : l.steps + l.from ≡ l.fn.steps + l.place;
}

abbrev pub decreases-loop-place : goal.decreases-loop-place
decreases-loop-place g l = l.end - l.place
