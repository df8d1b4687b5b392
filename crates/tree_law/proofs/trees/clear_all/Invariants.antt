use Rattle.tree_law.specs.Trees.{cleared_tree}
use Rattle.tree_law.proofs.LoopLemmas.{IsChanged}
use Rattle.tree_law.proofs.trees.clear_all.Given as goal

abbrev pub invariant-loop-tree : goal.invariant-loop-tree
invariant-loop-tree l = IsChanged cleared_tree l.initial.trees l.trees l.tree-index
