use Rattle.tree_law.specs.Trees.{expired_tree}
use Rattle.tree_law.proofs.LoopLemmas.{IsChanged}
use Rattle.tree_law.proofs.trees.expire_all.Given as goal

abbrev pub invariant-loop-tree : goal.invariant-loop-tree
invariant-loop-tree l = IsChanged (expired_tree l.number) l.initial.trees l.trees l.tree-index
