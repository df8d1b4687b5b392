use Rattle.std.proofs.Common.{◌≡◌, ◌+◌, ◌∷◌, [], true, length, take, drop}
use Rattle.std.specs.List.{filter}
use Rattle.tree_rows.specs.Routes.{rows_routes, lacks}
use Rattle.join_base.specs.Taken.{contains_number}
use Rattle.row_screens.specs.Offers.{places}
use Rattle.row_screens.specs.Below.{AreOpen}
use Rattle.tree_rows.specs.Order.{AreSound}
use Rattle.match_tree.specs.Begins.{Begins}
use Rattle.match_tree.proofs.at_leaf.begin_rows.Given as goal

-- the rows so far may have gained a node, and the others are as they were
abbrev pub invariant-loop-place : goal.invariant-loop-place
invariant-loop-place l = record {
  sound : AreSound (take l.place l.rows);
  opens : AreOpen l.slots (rows_routes 0 (take l.place l.rows));
  lasts : filter (lacks (l.offer.number ∷ [])) (rows_routes 0 (take l.place l.rows)) ≡ filter (lacks (l.offer.number ∷ [])) (rows_routes 0 (take l.place l.initial.rows));
  left : drop l.place l.rows ≡ drop l.place l.initial.rows;
  begins : l.fits ≡ true → Begins l.offer.number (filter (contains_number l.begun) (places 0 (take l.place l.initial.rows))) (rows_routes 0 (take l.place l.initial.rows)) (rows_routes 0 (take l.place l.rows));
  counted : l.count + length (rows_routes 0 (take l.place l.initial.rows)) ≡ l.initial.count + length (rows_routes 0 (take l.place l.rows));
}
