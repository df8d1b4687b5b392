use Rattle.tree_law.specs.Trees.{settled_tree}
use Rattle.tree_law.proofs.LoopLemmas.{IsChanged}
use Rattle.tree_law.proofs.trees.forget_all.Given as goal

abbrev pub invariant-loop-tree : goal.invariant-loop-tree
invariant-loop-tree l = IsChanged settled_tree l.initial.trees l.trees l.tree-index
