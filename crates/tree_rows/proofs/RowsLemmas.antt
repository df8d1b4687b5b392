-- Rows one by one: the routes of those so far and of the others.
use Rattle.std.proofs.Common.{◌≡◌, ◌∙◌, ℕ, zero, suc, ◌+◌, ◌<◌, List, [], ◌∷◌, ◌++◌, map, length, take, drop, get_or, set, refl, sym, ap, arith, length-append, append_assoc}
use Rattle.std.proofs.lemmas.List.{take_more, take_more_set, length-take-le, append-nil}
use Rattle.tree_rows.specs.Routes.{Route, Branch, row_routes, rows_routes}
use Rattle.tree_rows.proofs.WalkLemmas.{split_at_place}

pub rows_append : (p : ℕ) (xs ys : List (List Branch)) → rows_routes p (xs ++ ys) ≡ rows_routes p xs ++ rows_routes (p + length xs) ys
rows_append p [] ys = let e : p ≡ p + 0 = omega arith in ap (λ (k : ℕ). rows_routes k ys) e
rows_append p (row ∷ xs) ys =
    let e : p + 1 + length xs ≡ p + suc (length xs) = omega arith in
    ap (λ (rs : List Route). row_routes p row ++ rs) (rows_append (p + 1) xs ys ∙ ap (λ (k : ℕ). rows_routes (p + 1) xs ++ rows_routes k ys) e)
    ∙ sym (append_assoc (row_routes p row) (rows_routes (p + 1) xs) (rows_routes (p + suc (length xs)) ys))

-- the routes of the first rows and of one more
pub rows_end : (i : ℕ) (xs : List (List Branch)) (row : List Branch) → length xs ≡ i → rows_routes 0 (xs ++ row ∷ []) ≡ rows_routes 0 xs ++ row_routes i row
rows_end i xs row count =
    let at : 0 + length xs ≡ i = omega arith in
    rows_append 0 xs (row ∷ []) ∙ ap (λ (k : ℕ). rows_routes 0 xs ++ rows_routes k (row ∷ [])) at ∙ ap (λ (rs : List Route). rows_routes 0 xs ++ rs) (append-nil (row_routes i row))

-- the routes of all rows, with one apart
pub rows_middle : (i : ℕ) (xs : List (List Branch)) (row : List Branch) (ys : List (List Branch)) → length xs ≡ i → rows_routes 0 (xs ++ row ∷ ys) ≡ rows_routes 0 xs ++ (row_routes i row ++ rows_routes (i + 1) ys)
rows_middle i xs row ys count =
    let at : 0 + length xs ≡ i = omega arith in
    rows_append 0 xs (row ∷ ys) ∙ ap (λ (k : ℕ). rows_routes 0 xs ++ rows_routes k (row ∷ ys)) at

-- ---- one row further

module _ (rows items : List (List Branch)) (i : ℕ) (row now d : List Branch) (within : i < length rows) (within' : i < length items) (is : row ≡ get_or rows i d) where
  pub front_count : (xs : List (List Branch)) → i < length xs → length (take i xs) ≡ i
  front_count xs w = length-take-le i xs (omega arith)

  pub before_on : take (i + 1) rows ≡ take i rows ++ row ∷ []
  before_on = take_more rows i d within ∙ ap (λ (x : List Branch). take i rows ++ x ∷ []) (sym is)

  pub before_routes : rows_routes 0 (take (i + 1) rows) ≡ rows_routes 0 (take i rows) ++ row_routes i row
  before_routes = ap (rows_routes 0) before_on ∙ rows_end i (take i rows) row (front_count rows within)

  pub now_routes : rows_routes 0 (take (i + 1) (set items i now)) ≡ rows_routes 0 (take i items) ++ row_routes i now
  now_routes = ap (rows_routes 0) (take_more_set items i now within') ∙ rows_end i (take i items) now (front_count items within')

  pub before_all : rows_routes 0 rows ≡ rows_routes 0 (take i rows) ++ (row_routes i row ++ rows_routes (i + 1) (drop (i + 1) rows))
  before_all = ap (rows_routes 0) (split_at_place rows i d within ∙ ap (λ (x : List Branch). take i rows ++ x ∷ drop (i + 1) rows) (sym is)) ∙ rows_middle i (take i rows) row (drop (i + 1) rows) (front_count rows within)

  pub counts_rows_on : (length (rows_routes 0 (take (i + 1) rows)) ≡ length (rows_routes 0 (take i rows)) + length (row_routes i row)) × (length (rows_routes 0 (take (i + 1) (set items i now))) ≡ length (rows_routes 0 (take i items)) + length (row_routes i now))
  counts_rows_on = (
    ap (λ (rs : List Route). length rs) before_routes ∙ length-append (rows_routes 0 (take i rows)) (row_routes i row),
    ap (λ (rs : List Route). length rs) now_routes ∙ length-append (rows_routes 0 (take i items)) (row_routes i now),
  )

pub get_or-map : {X Y : Type 0} (xs : List X) (i : ℕ) (d : X) (f : X → Y) → f (get_or xs i d) ≡ get_or (map f xs) i (f d)
get_or-map [] i d f = refl
get_or-map (x ∷ xs) zero d f = refl
get_or-map (x ∷ xs) (suc i) d f = get_or-map xs i d f
