use Rattle.std.proofs.Common.{◌∙◌, subst, ap, length, arith}
use Rattle.match_tree.specs.Tree.{Tree}
use Rattle.tree_law.specs.Trees.{HasOnce}
use Rattle.tree_law.proofs.LoopLemmas.{once_more, paths_all, paths_more}
use Rattle.tree_law.proofs.trees.count_paths.Goals as goal

pub loop-tree-preserved : goal.loop-tree-preserved
loop-tree-preserved c =
    let tree = c.tree-item.result in
    let i = c.loop-tree.tree-index in
    record {
      count = paths_more c.args.trees.now i tree c.loop-tree.count c.partials.result c.saturating_add-count.result c.loop-tree-test.true (c.partials.ensures.count ∙ ap (λ (t : Tree). length t.paths) c.tree-item.is) c.saturating_add-count.ensures c.loop-tree.invariant.count;
      small = let made = c.saturating_add-count.ensures in omega arith;
      once = once_more c.args.trees.now i tree c.loop-tree-test.true c.loop-tree.invariant.once (subst HasOnce c.tree-item.is c.partials.ensures.once);
    }

pub returns-clause-count : goal.returns-clause-count
returns-clause-count c =
    paths_all c.args.trees.now c.loop-tree.tree-index c.loop-tree.count (omega (arith, c.loop-tree-test.false)) c.loop-tree.invariant.small c.loop-tree.invariant.count
