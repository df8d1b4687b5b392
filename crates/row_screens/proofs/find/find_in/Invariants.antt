use Rattle.std.proofs.Common.{◌≡◌, ◌+◌}
use Rattle.std.specs.Prelude.{Some}
use Rattle.row_screens.specs.Screen.{AreLacking}
use Rattle.row_screens.proofs.find.find_in.Given as goal

-- those so far have not the key's value, and each was counted
abbrev pub invariant-loop-place : goal.invariant-loop-place
invariant-loop-place g l = record {
  lacking : AreLacking l.messages (Some l.key) l.leaves l.from l.place;
  counted : l.steps + l.from ≡ l.initial.steps + l.place;
}
