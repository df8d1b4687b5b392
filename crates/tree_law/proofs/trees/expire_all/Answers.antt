use Rattle.tree_law.specs.Trees.{HasReserve, expired_tree}
use Rattle.tree_law.proofs.LoopLemmas.{changed_more, item_before}
use Rattle.tree_law.proofs.trees.expire_all.Goals as goal

pub loop-tree-preserved : goal.loop-tree-preserved
loop-tree-preserved c =
    changed_more (expired_tree c.args.number) c.args.trees.now c.loop-tree.trees c.loop-tree.tree-index c.tree-item.result c.expire.new.self c.loop-tree-test.true c.loop-tree.invariant c.expire.ensures

pub expire-requires : goal.expire-requires
expire-requires c =
    let h = item_before (expired_tree c.args.number) (HasReserve c.args.number) c.args.trees.now c.loop-tree.trees c.loop-tree.tree-index c.tree-item.result c.loop-tree-test.true c.loop-tree.invariant c.requires.reserved in
    record { few = c.requires.few; reserved = h.reserved; sees = h.sees }
