use Rattle.tree_law.specs.Trees.{settled_tree}
use Rattle.tree_law.proofs.LoopLemmas.{changed_more}
use Rattle.tree_law.proofs.trees.forget_all.Goals as goal

pub loop-tree-preserved : goal.loop-tree-preserved
loop-tree-preserved c =
    changed_more settled_tree c.args.trees.now c.loop-tree.trees c.loop-tree.tree-index c.tree-item.result c.forget.new.self c.loop-tree-test.true c.loop-tree.invariant c.forget.ensures
