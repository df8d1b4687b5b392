use Rattle.std.proofs.Common.{◌≡◌, ◌+◌, ◌∷◌, [], length, take, drop}
use Rattle.std.specs.List.{filter}
use Rattle.tree_rows.specs.Routes.{rows_routes, lacks}
use Rattle.match_tree.proofs.by_value.take_back.Given as goal

abbrev pub invariant-loop-place : goal.invariant-loop-place
invariant-loop-place l = record {
  done : rows_routes 0 (take l.place l.rows) ≡ filter (lacks (l.offer.number ∷ [])) (rows_routes 0 (take l.place l.initial.rows));
  left : drop l.place l.rows ≡ drop l.place l.initial.rows;
  counted : l.gone + length (rows_routes 0 (take l.place l.rows)) ≡ length (rows_routes 0 (take l.place l.initial.rows));
}
