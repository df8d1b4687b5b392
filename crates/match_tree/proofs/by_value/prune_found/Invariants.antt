use Rattle.std.proofs.Common.{◌≡◌, ◌+◌, length}
use Rattle.value_index.specs.ValueRange.{Ascend}
use Rattle.tree_rows.specs.Routes.{row_routes}
use Rattle.match_tree.specs.Thinned.{IsThinned}
use Rattle.match_tree.proofs.ThinLemmas.{IsLeft}
use Rattle.match_tree.proofs.by_value.prune_found.Given as goal

-- a node below the limit that is as it was has none of the numbers, or one of those that are left
abbrev pub invariant-loop-at : goal.invariant-loop-at
invariant-loop-at l = record {
  thinned : IsThinned l.numbers (IsLeft l.numbers l.limit l.initial.left l.left) l.initial.nodes.items l.nodes.items;
  ascend : Ascend l.left;
  counted : l.gone + length (row_routes 0 l.nodes.items) ≡ length (row_routes 0 l.initial.nodes.items);
}

abbrev pub decreases-loop-at : goal.decreases-loop-at
decreases-loop-at l = length l.left
