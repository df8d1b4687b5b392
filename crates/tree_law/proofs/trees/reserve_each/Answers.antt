use Rattle.tree_law.proofs.LoopLemmas.{like_tree, refused_same, reserved_at, reserving_more, tries_more}
use Rattle.std.proofs.Common.{get_or}
use Rattle.tree_law.proofs.trees.reserve_each.Goals as goal

pub returns-in_err-reserve_for-clause-same : goal.returns-in_err-reserve_for-clause-same
returns-in_err-reserve_for-clause-same g c =
    let i = c.loop-tree.tree-index in
    let d = c.tree-item.result in
    let now = c.loop-tree.trees in
    let e = c.reserve_for.ensures in
    let like = like_tree (get_or now i d) c.reserve_for.new.self e.definition e.rule e.paths in
    refused_same c.args.messages.now c.args.number c.args.trees.now now i d c.reserve_for.new.self c.loop-tree-test.true c.loop-tree.invariant.reserving like

pub loop-tree-preserved : goal.loop-tree-preserved
loop-tree-preserved g c =
    let i = c.loop-tree.tree-index in
    let d = c.tree-item.result in
    let now = c.loop-tree.trees in
    let e = c.reserve_for.ensures in
    let like = like_tree (get_or now i d) c.reserve_for.new.self e.definition e.rule e.paths in
    record {
      reserving =
          reserving_more c.args.messages.now c.args.number c.args.trees.now now i d c.reserve_for.new.self c.loop-tree-test.true c.loop-tree.invariant.reserving like
          (reserved_at c.args.messages.now c.args.number (get_or now i d) c.reserve_for.new.self like c.in_ok-reserve_for.ensures.reserved);
      stepped =
          tries_more c.args.messages.now c.args.number c.args.trees.now now i d c.args.steps.now c.loop-tree.steps c.reserve_for.new.steps c.loop-tree-test.true c.loop-tree.invariant.reserving c.loop-tree.invariant.stepped e.stepped;
    }
