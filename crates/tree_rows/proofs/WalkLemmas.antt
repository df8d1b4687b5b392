-- The items of a list one by one, and the routes of the nodes of a row.
use Rattle.std.proofs.Common.{◌≡◌, ◌∙◌, ℕ, zero, suc, ◌+◌, ◌<◌, List, [], ◌∷◌, ◌++◌, length, take, drop, get_or, sym, ap, arith, length-append}
use Rattle.std.specs.List.{AllByRecursion}
use Rattle.std.proofs.lemmas.List.{take-append-drop, drop_more, drop-drop, get_or-drop, length-map, append-nil}
use Rattle.tree_rows.specs.Routes.{Route, Branch, step, node_routes, row_routes}
use Rattle.tree_rows.proofs.ListLemmas.{row_append}

pub all_at : {X : Type 0} (P : X → Type 0) (xs : List X) (i : ℕ) (d : X) → i < length xs → AllByRecursion P xs → P (get_or xs i d)
all_at P [] i d within h = absurd (omega arith)
all_at P (x ∷ xs) zero d within h = h.0
all_at P (x ∷ xs) (suc i) d within h = all_at P xs i d (omega arith) h.1

-- what is left is the same one place on
pub left_more : {X : Type 0} (xs ys : List X) (i : ℕ) → drop i xs ≡ drop i ys → drop (i + 1) xs ≡ drop (i + 1) ys
left_more xs ys i e = sym (drop-drop 1 i xs) ∙ ap (drop 1) e ∙ drop-drop 1 i ys

pub left_item : {X : Type 0} (xs ys : List X) (i : ℕ) (d : X) → drop i xs ≡ drop i ys → get_or xs i d ≡ get_or ys i d
left_item {X} xs ys i d e =
    let at : i + 0 ≡ i = omega arith in
    let first : (zs : List X) → get_or (drop i zs) 0 d ≡ get_or zs i d = λ zs. get_or-drop i zs 0 d ∙ ap (λ (k : ℕ). get_or zs k d) at in
    sym (first xs) ∙ ap (λ (zs : List X). get_or zs 0 d) e ∙ first ys

pub split_at_place : {X : Type 0} (xs : List X) (i : ℕ) (d : X) → i < length xs → xs ≡ take i xs ++ get_or xs i d ∷ drop (i + 1) xs
split_at_place {X} xs i d within = sym (take-append-drop i xs) ∙ ap (λ (ys : List X). take i xs ++ ys) (drop_more xs i d within)

pub node_length : (q : ℕ) (node : Branch) → length (node_routes q node) ≡ length node.routes + 1
node_length q node = let e = length-map node.routes (λ (r : Route). step q node.number ∷ r) in omega arith

pub row_length : (q : ℕ) (xs : List Branch) (node : Branch) → length (row_routes q (xs ++ node ∷ [])) ≡ length (row_routes q xs) + (length node.routes + 1)
row_length q xs node =
    ap (λ (rs : List Route). length rs) (row_append q xs (node ∷ []))
    ∙ length-append (row_routes q xs) (row_routes q (node ∷ []))
    ∙ ap (λ (n : ℕ). length (row_routes q xs) + n) (ap (λ (rs : List Route). length rs) (append-nil (node_routes q node)) ∙ node_length q node)

pub rows_length : (q : ℕ) (xs : List Branch) (node : Branch) (ys : List Branch) → length (row_routes q (xs ++ node ∷ ys)) ≡ length (row_routes q xs) + (length node.routes + 1) + length (row_routes q ys)
rows_length q xs node ys =
    let a = ap (λ (rs : List Route). length rs) (row_append q xs (node ∷ ys)) ∙ length-append (row_routes q xs) (row_routes q (node ∷ ys)) in
    let b = length-append (node_routes q node) (row_routes q ys) in
    let c = node_length q node in
    omega arith
