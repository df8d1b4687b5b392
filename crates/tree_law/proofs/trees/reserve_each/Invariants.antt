use Rattle.std.proofs.Common.{◌+◌, ◌≤◌, drop}
use Rattle.tree_law.specs.Trees.{tries_at}
use Rattle.tree_law.proofs.LoopLemmas.{IsReserving}
use Rattle.tree_law.proofs.trees.reserve_each.Given as goal

abbrev pub invariant-loop-tree : goal.invariant-loop-tree
invariant-loop-tree g l = record {
  reserving : IsReserving l.messages l.number l.initial.trees l.trees l.tree-index;
  stepped : l.steps + tries_at l.messages l.number (drop l.tree-index l.initial.trees) ≤ l.initial.steps + tries_at l.messages l.number l.initial.trees;
}
