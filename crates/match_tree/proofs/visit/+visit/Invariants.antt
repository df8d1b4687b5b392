use Rattle.std.proofs.Common.{◌≡◌, ◌<◌, true, nat_le, ◌+◌, ◌-◌, ◌*◌, ◌≤◌, [], ◌∷◌, length, take, drop, map, None}
use Rattle.pattern_core.specs.Choice.{least}
use Rattle.tree_rows.specs.declared.node.Node.TheDeep.{size-Node}
use Rattle.tree_rows.specs.Routes.{row_routes, rows_routes}
use Rattle.tree_rows.specs.Rows.{node_at}
use Rattle.row_screens.specs.Offers.{seen, new_matches}
use Rattle.row_screens.specs.Below.{AreOpen}
use Rattle.std.specs.Prelude.{IfSome}
use Rattle.row_screens.specs.Look.{HasLeft}
use Rattle.row_screens.specs.Offering.{offered}
use Rattle.tree_rows.specs.Order.{AreSound}
use Rattle.match_tree.specs.Growth.{AreEarned, Lasts, Grows}
use Rattle.match_tree.specs.Begins.{AreLess}
use Rattle.row_screens.specs.Screen.{AreAsked}
use Rattle.match_tree.specs.Tries.{tries_behind}
use Rattle.match_tree.proofs.SkipLemmas.{Walked}
use Rattle.match_tree.proofs.visit.+visit.Given as goal

-- a walk goes from rows to each of them, one of its nodes, and the rows below it
abbrev pub decreases-visit_rows : goal.decreases-visit_rows
decreases-visit_rows g l = 4 * goal.size-visit_rows g l + 3

abbrev pub decreases-visit_each : goal.decreases-visit_each
decreases-visit_each g l = 4 * goal.size-visit_each g l + 2

abbrev pub decreases-visit_row : goal.decreases-visit_row
decreases-visit_row g l = 4 * goal.size-visit_row g l + 1

abbrev pub decreases-visit_only : goal.decreases-visit_only
decreases-visit_only g l = 4 * goal.size-visit_only g l

abbrev pub decreases-visit_nodes : goal.decreases-visit_nodes
decreases-visit_nodes g l = 4 * goal.size-visit_nodes g l

-- a row may have grown before the place, so the node there counts alone
abbrev pub decreases-visit_at : goal.decreases-visit_at
decreases-visit_at g l = 4 * size-Node (node_at l.row.now l.place) + 1

abbrev pub decreases-visit_node : goal.decreases-visit_node
decreases-visit_node g l = 4 * goal.size-visit_node g l

-- the nodes so far were passed without a match, the others are as they were, and the definition sees the next, behind which no
-- conjunct is left to ask where there is a screen; what is left of a look-up has the numbers behind that
abbrev pub invariant-visit_nodes-loop-place : goal.invariant-visit_nodes-loop-place
invariant-visit_nodes-loop-place g l = record {
  walked : Walked (offered l.offer) l.slots l.pattern l.initial.row l.row l.initial.count l.count l.fn.steps l.steps l.place;
  seen : l.place < length l.row → nat_le l.offer.oldest (node_at l.row l.place).number ≡ true;
  asked : l.place < length l.row → AreAsked (offered l.offer) l.slots l.pattern l.screen (node_at l.row l.place).number;
  numbers : map (λ node. node.number) l.row ≡ map (λ node. node.number) l.initial.row;
  left : l.place < length l.row → IfSome l.left (HasLeft (offered l.offer) l.slots l.pattern l.row (l.place + 1));
  earned : AreEarned (offered l.offer) l.slots (row_routes l.pattern l.row);
}

-- the rows so far were visited, and the others are as they were
abbrev pub invariant-visit_each-loop-place : goal.invariant-visit_each-loop-place
invariant-visit_each-loop-place g l = record {
  sound : AreSound (take l.place l.rows);
  less : AreLess l.offer.number (take l.place l.rows);
  lasts : Lasts l.offer.number (rows_routes 0 (take l.place l.initial.rows)) (rows_routes 0 (take l.place l.rows));
  opens : AreOpen l.slots (rows_routes 0 (take l.place l.rows));
  left : drop l.place l.rows ≡ drop l.place l.initial.rows;
  best : l.best ≡ least (new_matches (offered l.offer) l.slots ([] ∷ seen (offered l.offer) (rows_routes 0 (take l.place l.initial.rows))));
  grows : l.best ≡ None → Grows (offered l.offer) l.slots [] (rows_routes 0 (take l.place l.initial.rows)) (rows_routes 0 (take l.place l.rows));
  earned : AreEarned (offered l.offer) l.slots (rows_routes 0 (take l.place l.rows));
  counted : l.count + length (rows_routes 0 (take l.place l.initial.rows)) ≡ l.initial.count + length (rows_routes 0 (take l.place l.rows));
  stepped : l.steps ≤ l.initial.steps + tries_behind (offered l.offer) l.slots (rows_routes 0 (take l.place l.initial.rows));
}

abbrev pub decreases-visit_nodes-loop-place : goal.decreases-visit_nodes-loop-place
decreases-visit_nodes-loop-place g l = l.end - l.place
