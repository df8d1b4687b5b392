use Rattle.std.proofs.Common.{◌∷◌, []}
use Rattle.row_screens.specs.Offering.{offered}
use Rattle.match_tree.specs.Thinned.{IsBarred}
use Rattle.tree_rows.specs.Rows.{node_at}
use Rattle.match_tree.proofs.ThinLemmas.{same_thinned}
use Rattle.match_tree.proofs.by_value.prune_other.Goals as goal

pub returns-then-not-is_wanted-clause-left : goal.returns-then-not-is_wanted-clause-left
returns-then-not-is_wanted-clause-left c =
    let a = c.args in
    let o = offered a.offer.now in
    let items = a.nodes.now.items in
    same_thinned (o.number ∷ []) (IsBarred o a.slots.now a.pattern a.other) items (λ i l less. c.is_wanted.ensures c.if-not-is_wanted.true a.slots.now (node_at items i).number)
