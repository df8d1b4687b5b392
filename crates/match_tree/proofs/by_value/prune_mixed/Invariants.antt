use Rattle.std.proofs.Common.{◌≡◌, ◌+◌, ◌≤◌, length, map, take}
use Rattle.std.specs.List.{AllByRecursion}
use Rattle.tree_rows.specs.Routes.{row_routes}
use Rattle.row_screens.specs.Offering.{offered}
use Rattle.tree_rows.specs.Order.{IsSoundRow}
use Rattle.tree_rows.specs.Pruned.{AreShort, pruned}
use Rattle.match_tree.specs.Thinned.{NodesContinuePath}
use Rattle.match_tree.proofs.by_value.prune_mixed.Given as goal

-- without the others, the routes are those without all numbers so far
abbrev pub invariant-loop-number : goal.invariant-loop-number
invariant-loop-number l = record {
  few : length l.others ≤ l.number-index;
  left : map (pruned l.others) l.nodes.items ≡ map (pruned (take l.number-index l.number-items)) l.initial.nodes.items;
  go_on : NodesContinuePath (offered l.offer) l.slots l.pattern l.nodes.items;
  sound : IsSoundRow l.nodes.items;
  short : AllByRecursion (λ node. AreShort l.levels node.routes) l.nodes.items;
  counted : l.gone + length (row_routes 0 l.nodes.items) ≡ length (row_routes 0 l.initial.nodes.items);
}
