-- How many routes go with nodes that are taken out of a row.
use Rattle.std.proofs.Common.{◌≡◌, ◌∙◌, ℕ, suc, ◌+◌, ◌-◌, ◌<◌, ◌≤◌, List, [], ◌∷◌, ◌++◌, length, take, drop, get_or, set, Bool, true, false, cond, Some, sym, ap, subst, arith, length-append}
use Rattle.std.specs.List.{filter, remove, AllByRecursion}
use Rattle.tree_rows.specs.Routes.{Route, Branch, node_routes, row_routes, rows_routes}
use Rattle.tree_rows.specs.Order.{IsOrderedNode, IsSoundRow}
use Rattle.tree_rows.specs.Pruned.{AreShort}
use Rattle.tree_rows.proofs.ListLemmas.{row_append}
use Rattle.tree_rows.proofs.WalkLemmas.{all_at, split_at_place, row_length, rows_length}
use Rattle.tree_rows.proofs.RowsLemmas.{before_all}
use Rattle.std.proofs.lemmas.List.{take_more, take_more_set}
use Rattle.tree_rows.proofs.PruneLemmas.{row_count, short_below, rise_filter, all_filtered}
use Rattle.join_base.proofs.EachLemmas.{each_append as all_both}
use Rattle.guard_eval.proofs.ReadyLemmas.{all_left, all_right}

-- the routes of a row are those of a node and those that are left without it
pub count_without : (row : List Branch) (i : ℕ) (node : Branch) → i < length row → node ≡ get_or row i node → length (row_routes 0 row) ≡ length node.routes + 1 + length (row_routes 0 (remove row i))
count_without row i node within is =
    let more : suc i ≡ i + 1 = omega arith in
    let front : List Branch = take i row in
    let rest : List Branch = drop (i + 1) row in
    let whole = ap (λ (xs : List Branch). length (row_routes 0 xs)) (split_at_place row i node within ∙ ap (λ (x : Branch). front ++ x ∷ rest) (sym is)) ∙ rows_length 0 front node rest in
    let left = ap (λ (k : ℕ). length (row_routes 0 (front ++ drop k row))) more ∙ ap (λ (rs : List Route). length rs) (row_append 0 front rest) ∙ length-append (row_routes 0 front) (row_routes 0 rest) in
    omega arith

-- a node of a row, by its place
pub node_short : (levels : ℕ) (row : List Branch) (i : ℕ) (node : Branch) → i < length row → node ≡ get_or row i node → AreShort levels (row_routes 0 row) → AreShort (levels - 1) node.routes
node_short levels row i node within is short = subst (λ (x : Branch). AreShort (levels - 1) x.routes) (sym is) (all_at (λ (x : Branch). AreShort (levels - 1) x.routes) row i node within (short_below levels 0 row short))

pub node_ordered : (row : List Branch) (i : ℕ) (node : Branch) → i < length row → node ≡ get_or row i node → AllByRecursion IsOrderedNode row → IsOrderedNode node
node_ordered row i node within is ordered = subst IsOrderedNode (sym is) (all_at IsOrderedNode row i node within ordered)

pub same_some : {X : Type 0} {x y : X} → Some x ≡ Some y → x ≡ y
same_some e = cc

-- a row without a node that it is given back
pub count_removed : (row now : List Branch) (i : ℕ) (node : Branch) → i < length row → node ≡ get_or row i node → now ≡ remove row i → length (row_routes 0 row) ≡ length node.routes + 1 + length (row_routes 0 now)
count_removed row now i node within is left = count_without row i node within is ∙ ap (λ (xs : List Branch). length node.routes + 1 + length (row_routes 0 xs)) (sym left)

-- ---- nodes that are left

pub sound_filter : (p : Branch → Bool) (row : List Branch) → IsSoundRow row → IsSoundRow (filter p row)
sound_filter p row sound = record { rise = rise_filter p row sound.rise; ordered = all_filtered IsOrderedNode p row sound.ordered }

pub short_filter : (m : ℕ) (p : Branch → Bool) (row : List Branch) → AreShort m (row_routes 0 row) → AreShort m (row_routes 0 (filter p row))
short_filter m p [] h = tt
short_filter m p (node ∷ row) h = by (p node) (short_filter m p row (all_right Short (node_routes 0 node) (row_routes 0 row) h))
  where
    Short : Route → Type 0
    Short r = length r ≤ m

    by : (b : Bool) → AreShort m (row_routes 0 (filter p row)) → AreShort m (row_routes 0 (cond b (node ∷ filter p row) (filter p row)))
    by true later = all_both Short (node_routes 0 node) (row_routes 0 (filter p row)) (all_left Short (node_routes 0 node) (row_routes 0 row) h) later
    by false later = later

-- ---- a walk over nodes, and over rows

-- a node has no more routes than its row
pub counts_parts : (row : List Branch) (i : ℕ) (node : Branch) → i < length row → node ≡ get_or row i node
    → length (row_routes 0 row) ≡ length (row_routes 0 (take i row)) + (length node.routes + 1) + length (row_routes 0 (drop (i + 1) row))
counts_parts row i node within is = ap (λ (xs : List Branch). length (row_routes 0 xs)) (split_at_place row i node within ∙ ap (λ (x : Branch). take i row ++ x ∷ drop (i + 1) row) (sym is)) ∙ rows_length 0 (take i row) node (drop (i + 1) row)

-- one node more
pub counts_steps : (row items : List Branch) (i : ℕ) (node now d : Branch) → i < length row → i < length items → node ≡ get_or row i d
    → (length (row_routes 0 (take (i + 1) row)) ≡ length (row_routes 0 (take i row)) + (length node.routes + 1)) × (length (row_routes 0 (take (i + 1) (set items i now))) ≡ length (row_routes 0 (take i items)) + (length now.routes + 1))
counts_steps row items i node now d within within' is = (
  ap (λ (xs : List Branch). length (row_routes 0 xs)) (take_more row i d within ∙ ap (λ (x : Branch). take i row ++ x ∷ []) (sym is)) ∙ row_length 0 (take i row) node,
  ap (λ (xs : List Branch). length (row_routes 0 xs)) (take_more_set items i now within') ∙ row_length 0 (take i items) now,
)

-- a row has no more routes than the rows
pub counts_row : (rows : List (List Branch)) (i : ℕ) (row : List Branch) → i < length rows → row ≡ get_or rows i row → length (rows_routes 0 (take i rows)) + length (row_routes 0 row) ≤ length (rows_routes 0 rows)
counts_row rows i row within is =
    let whole = ap (λ (rs : List Route). length rs) (before_all rows rows i row row row within within is) in
    let a = length-append (rows_routes 0 (take i rows)) (row_routes i row ++ rows_routes (i + 1) (drop (i + 1) rows)) in
    let b = length-append (row_routes i row) (rows_routes (i + 1) (drop (i + 1) rows)) in
    let c = row_count 0 i row in
    omega arith
