use Rattle.std.proofs.Common.{◌≡◌, None}
use Rattle.std.specs.List.{AllByRecursion}
use Rattle.match_tree.specs.Tree.{offer_to}
use Rattle.row_screens.specs.Offering.{CanOffer}
use Rattle.matching_tests.specs.Tried.{AreAmong, kept, pair}
use Rattle.matching_tests.proofs.tried.bring_three.Given as goal

abbrev pub invariant-loop-number : goal.invariant-loop-number
invariant-loop-number g l = record {
  settled : l.tree.reserve ≡ None;
  definition : l.tree.definition ≡ pair;
  can : AllByRecursion (CanOffer (offer_to l.tree l.messages l.number)) l.tree.paths;
  among : AreAmong l.tree.paths kept;
}
