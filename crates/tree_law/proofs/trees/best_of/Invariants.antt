use Rattle.std.proofs.Common.{◌≡◌, drop}
use Rattle.pattern_core.specs.Choice.{lesser_of}
use Rattle.tree_law.specs.Trees.{best_of}
use Rattle.tree_law.proofs.trees.best_of.Given as goal

abbrev pub invariant-loop-tree : goal.invariant-loop-tree
invariant-loop-tree l = lesser_of l.best (best_of (drop l.tree-index l.trees)) ≡ best_of l.trees
