use Rattle.std.proofs.Common.{◌≡◌, None, get_or}
use Rattle.std.specs.List.{AllByRecursion}
use Rattle.match_tree.specs.Tree.{Tree}
use Rattle.tree_law.specs.Trees.{CanOfferTo, HasPaths, pruned_tree}
use Rattle.tree_law.proofs.LoopLemmas.{changed_more, item_before}
use Rattle.tree_law.proofs.trees.prune_all.Goals as goal

pub loop-tree-preserved : goal.loop-tree-preserved
loop-tree-preserved c =
    changed_more (pruned_tree c.args.numbers.now) c.args.trees.now c.loop-tree.trees c.loop-tree.tree-index c.tree-item.result c.prune.new.self c.loop-tree-test.true c.loop-tree.invariant c.prune.ensures

pub prune-requires : goal.prune-requires
prune-requires c =
    let a = c.args in
    let before : (P : Tree → Type 0) → AllByRecursion P a.trees.now → P (get_or c.loop-tree.trees c.loop-tree.tree-index c.tree-item.result) =
    λ P all. item_before (pruned_tree a.numbers.now) P a.trees.now c.loop-tree.trees c.loop-tree.tree-index c.tree-item.result c.loop-tree-test.true c.loop-tree.invariant all
    in
    record {
      few = c.requires.few;
      settled = before (λ t. t.reserve ≡ None) c.requires.settled;
      can = before (CanOfferTo a.messages.now a.number) c.requires.can;
      indexed = before (HasPaths a.index.now a.messages.now) c.requires.indexed;
    }
