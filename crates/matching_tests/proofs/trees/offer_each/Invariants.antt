use Rattle.std.proofs.Common.{◌≡◌, None}
use Rattle.std.specs.List.{AllByRecursion}
use Rattle.match_tree.specs.Tree.{offer_to}
use Rattle.row_screens.specs.Offering.{CanOffer}
use Rattle.matching_tests.proofs.trees.offer_each.Given as goal

-- the tree may be offered the number
abbrev pub invariant-loop-number : goal.invariant-loop-number
invariant-loop-number g l = record {
  settled : l.tree.reserve ≡ None;
  same : l.tree.definition ≡ l.initial.tree.definition;
  can : AllByRecursion (CanOffer (offer_to l.tree l.messages l.number)) l.tree.paths;
}
