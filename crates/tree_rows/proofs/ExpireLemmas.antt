-- The nodes that a definition does not see stand at the front of a row.
use Rattle.std.proofs.Common.{◌≡◌, length, ℕ, ◌+◌, ◌<◌, ◌≤◌, List, [], ◌∷◌, map, true, false, cond, nat_le, nat_lt, refl, sym, arith}
use Rattle.std.specs.List.{remove, AllByRecursion}
use Rattle.std.proofs.lemmas.Bool.Decides.{nat_tests}
use Rattle.guard_eval.proofs.ReadyLemmas.{all_right}
use Rattle.tree_rows.specs.Rows.{node_at}
use Rattle.tree_rows.specs.Routes.{Route, Branch, node_routes, row_routes}
use Rattle.tree_rows.specs.Order.{Rise, IsSoundRow}
use Rattle.tree_rows.specs.Pruned.{AreShort, seen_nodes}
use Rattle.tree_rows.proofs.OrderLemmas.{later_numbers}

-- ---- rows that begin with a seen node

keep_seen : (oldest n : ℕ) (row : List Branch) → nat_le oldest n ≡ true → AllByRecursion (λ node. n < node.number) row → seen_nodes oldest row ≡ row
keep_seen oldest n [] e h = refl
keep_seen oldest n (node ∷ row) e h =
    let here : nat_le oldest node.number ≡ true = let l = h.0 in grind (arith, nat_tests) in
    λ i. cond (here i) (node ∷ keep_seen oldest n row e h.1 i) (keep_seen oldest n row e h.1 i)

-- the first node of a row tells whether all are seen
pub front_seen : (oldest : ℕ) (row : List Branch) → Rise (map (λ node. node.number) row) → nat_lt (node_at row 0).number oldest ≡ false → seen_nodes oldest row ≡ row
front_seen oldest [] rise seen = refl
front_seen oldest (node ∷ row) rise seen =
    let here : nat_le oldest node.number ≡ true = grind (arith, nat_tests) in
    λ i. cond (here i) (node ∷ keep_seen oldest node.number row here (later_numbers node.number row rise.0) i) (keep_seen oldest node.number row here (later_numbers node.number row rise.0) i)

pub front_unseen : (oldest : ℕ) (row : List Branch) → 0 < length row → nat_lt (node_at row 0).number oldest ≡ true → seen_nodes oldest (remove row 0) ≡ seen_nodes oldest row
front_unseen oldest [] some unseen = absurd (omega arith)
front_unseen oldest (node ∷ row) some unseen =
    let here : nat_le oldest node.number ≡ false = grind (arith, nat_tests) in
    λ i. cond (sym here i) (node ∷ seen_nodes oldest row) (seen_nodes oldest row)

-- a row without its first node
pub sound_rest : (row : List Branch) → IsSoundRow row → IsSoundRow (remove row 0)
sound_rest [] sound = sound
sound_rest (node ∷ row) sound = record { rise = sound.rise.1; ordered = sound.ordered.1 }

pub short_rest : (levels : ℕ) (row : List Branch) → AreShort levels (row_routes 0 row) → AreShort levels (row_routes 0 (remove row 0))
short_rest levels [] short = short
short_rest levels (node ∷ row) short = all_right (λ (r : Route). length r ≤ levels) (node_routes 0 node) (row_routes 0 row) short

pub length_rest : (row : List Branch) → 0 < length row → length (remove row 0) + 1 ≡ length row
length_rest [] some = absurd (omega arith)
length_rest (node ∷ row) some = omega arith
