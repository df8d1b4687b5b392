use Rattle.std.proofs.Common.{◌≡◌, ◌+◌, ◌∷◌, [], length}
use Rattle.tree_rows.specs.Routes.{row_routes}
use Rattle.row_screens.specs.Offering.{offered}
use Rattle.match_tree.specs.Thinned.{IsThinned}
use Rattle.match_tree.proofs.ThinLemmas.{AreBarred}
use Rattle.match_tree.proofs.by_value.prune_offered.Given as goal

-- at a node that is as it was, the patterns so far are barred
abbrev pub invariant-loop-other : goal.invariant-loop-other
invariant-loop-other l = record {
  thinned : IsThinned (l.offer.number ∷ []) (AreBarred (offered l.offer) l.slots l.pattern l.other) l.initial.nodes.items l.nodes.items;
  counted : l.gone + length (row_routes 0 l.nodes.items) ≡ length (row_routes 0 l.initial.nodes.items);
}
