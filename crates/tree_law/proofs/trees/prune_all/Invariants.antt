use Rattle.tree_law.specs.Trees.{pruned_tree}
use Rattle.tree_law.proofs.LoopLemmas.{IsChanged}
use Rattle.tree_law.proofs.trees.prune_all.Given as goal

abbrev pub invariant-loop-tree : goal.invariant-loop-tree
invariant-loop-tree l = IsChanged (pruned_tree l.numbers) l.initial.trees l.trees l.tree-index
