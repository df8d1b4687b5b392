use Rattle.std.proofs.Common.{◌≡◌, ◌≤◌, length, take}
use Rattle.match_tree.proofs.tree.copy_of.Given as goal

abbrev pub invariant-loop-number : goal.invariant-loop-number
invariant-loop-number l = record {
  found : l.taken ≡ take l.number-index l.number-items;
  few : length l.taken ≤ l.number-index;
}
