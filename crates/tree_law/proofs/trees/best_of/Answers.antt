use Rattle.std.proofs.Common.{◌∙◌, Option, ap, sym}
use Rattle.pattern_core.specs.declared.candidate.Candidate.{Candidate}
use Rattle.pattern_core.specs.Choice.{lesser_of}
use Rattle.match_tree.specs.Tree.{Tree}
use Rattle.tree_law.specs.Trees.{reserve_best}
use Rattle.tree_law.proofs.LoopLemmas.{best_more, told_best}
use Rattle.tree_law.proofs.trees.best_of.Goals as goal

pub loop-tree-preserved : goal.loop-tree-preserved
loop-tree-preserved c =
    let tree = c.tree-item.result in
    let best = c.loop-tree.best in
    let is = told_best tree.reserve c.best_with.result c.best_with.ensures.best ∙ ap (λ (t : Tree). reserve_best t.reserve) c.tree-item.is in
    let made = c.better-best.ensures ∙ ap (λ (found : Option Candidate). lesser_of best found) (sym c.in-Some.is) in
    best_more c.args.trees.now c.loop-tree.tree-index tree best c.best_with.result c.better-best.result c.loop-tree-test.true c.loop-tree.invariant is made
