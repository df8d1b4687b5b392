use Rattle.std.proofs.Common.{◌≡◌, take, drop}
use Rattle.std.specs.List.{AllByRecursion}
use Rattle.pattern_core.specs.Choice.{least}
use Rattle.row_screens.specs.Offers.{matches_of}
use Rattle.row_screens.specs.Offering.{offered, MayTake}
use Rattle.row_screens.proofs.trial.match_among.Given as goal

abbrev pub invariant-loop-pattern : goal.invariant-loop-pattern
invariant-loop-pattern l = record {
  best : l.best ≡ least (matches_of (offered l.offer) l.slots (take l.pattern-index l.pattern-items));
  left : AllByRecursion (MayTake (offered l.offer) l.slots) (drop l.pattern-index l.pattern-items);
}
