use Rattle.std.proofs.Common.{◌≡◌, ◌≤◌, ◌+◌, length, take, drop}
use Rattle.std.specs.List.{filter, AllByRecursion}
use Rattle.row_screens.specs.Offers.{may_take}
use Rattle.row_screens.specs.Offering.{offered, MayTry}
use Rattle.row_screens.specs.Trial.{AllStandOutside}
use Rattle.row_screens.proofs.trial.takers.Given as goal

abbrev pub invariant-loop-pattern : goal.invariant-loop-pattern
invariant-loop-pattern g l = record {
  found : l.found ≡ filter (may_take (offered l.offer) l.slots) (take l.pattern-index l.pattern-items);
  few : length l.found ≤ l.pattern-index;
  outside : AllStandOutside (offered l.offer) l.asked l.slots (drop l.pattern-index l.pattern-items);
  left : AllByRecursion (MayTry l.slots) (drop l.pattern-index l.pattern-items);
  counted : l.steps ≡ l.initial.steps + l.pattern-index;
}
