use Rattle.tree_law.proofs.KeepLemmas.{IsKeeping}
use Rattle.tree_law.proofs.trees.keep_all.Given as goal

abbrev pub invariant-loop-tree : goal.invariant-loop-tree
invariant-loop-tree l = IsKeeping l.number l.initial.trees l.trees l.tree-index
