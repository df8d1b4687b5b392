use Rattle.std.proofs.Common.{◌≡◌, ◌+◌, ◌-◌, length, refl, arith}
use Rattle.tree_rows.proofs.LeafLemmas.{last_below}
use Rattle.tree_rows.proofs.row.place_of_leaf.Goals as goal

pub returns-then-last-number : goal.returns-then-last-number
returns-then-last-number c =
    let leaves = c.args.leaves.now in
    let long : length leaves.items ≡ (leaves.len - 1) + 1 = omega (arith, c.in-Some.ensures.variant.0 refl, leaves.ok.0) in
    last_below leaves.items c.args.number (leaves.len - 1) c.in-Some.last.now c.requires long c.in-Some.ensures.lookup c.if-last-number.true
