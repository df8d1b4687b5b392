use Rattle.std.proofs.Common.{◌≡◌, ◌+◌, ◌-◌, ◌<◌, length, refl, arith}
use Rattle.tree_rows.proofs.PruneLemmas.{last_node_below}
use Rattle.tree_rows.proofs.row.place_of_node.Goals as goal

pub returns-then-number : goal.returns-then-number
returns-then-number c =
    let nodes = c.args.nodes.now in
    let long : length nodes.items ≡ (nodes.len - 1) + 1 = omega (arith, c.in-Some.ensures.variant.0 refl, nodes.ok.0) in
    let less : c.in-Some.last.now.number < c.args.number = omega (arith, c.number.ensures, c.if-number.true) in
    last_node_below nodes.items c.args.number (nodes.len - 1) c.in-Some.last.now c.requires long c.in-Some.ensures.lookup less
