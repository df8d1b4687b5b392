use Rattle.std.proofs.Common.{◌≡◌, ◌∙◌, ◌+◌, ◌<◌, length, get_or, sym, subst, arith}
use Rattle.std.specs.Prelude.{OnSome}
use Rattle.std.specs.List.{remove}
use Rattle.tree_rows.specs.Routes.{row_routes}
use Rattle.tree_rows.proofs.CountLemmas.{same_some, node_short, count_removed}
use Rattle.tree_rows.proofs.prune.remove_node.Goals.{In-Some}
use Rattle.tree_rows.proofs.prune.remove_node.Goals as goal

-- the node that was taken out stood at the place
stood : (c : In-Some) → c.in-Some.node ≡ get_or c.args.nodes.now.items c.args.place c.in-Some.node
stood c =
    let inside : c.args.place < c.args.nodes.now.len = omega (arith, c.requires.within, c.args.nodes.now.ok.0) in
    same_some (sym c.in-Some.is ∙ c.remove.ensures.succeeds c.in-Some.node inside)

-- its routes went with it
parted : (c : In-Some) → length (row_routes 0 c.args.nodes.now.items) ≡ length c.in-Some.node.routes + 1 + length (row_routes 0 c.remove.new.self.items)
parted c =
    let left = subst (λ r. OnSome r (c.remove.new.self.items ≡ remove c.args.nodes.now.items c.args.place)) c.in-Some.is c.remove.ensures.items in
    count_removed c.args.nodes.now.items c.remove.new.self.items c.args.place c.in-Some.node c.requires.within (stood c) left

pub count_node-requires-clause-few : goal.count_node-requires-clause-few
count_node-requires-clause-few c =
    let count = parted (goal.at.count_node-requires-clause-few c).In-Some in
    omega (arith, c.requires.few)

pub count_node-requires-clause-short : goal.count_node-requires-clause-short
count_node-requires-clause-short c =
    node_short c.args.levels c.args.nodes.now.items c.args.place c.in-Some.node c.requires.within (stood (goal.at.count_node-requires-clause-short c).In-Some) c.requires.short

pub overflow_add-result : goal.overflow_add-result
overflow_add-result c =
    let count = parted (goal.at.overflow_add-result c).In-Some in
    omega (arith, c.requires.few, c.count_node.ensures)

pub returns-clause-gone : goal.returns-clause-gone
returns-clause-gone c =
    let count = parted (goal.at.returns-clause-gone c).In-Some in
    omega (arith, c.count_node.ensures)
