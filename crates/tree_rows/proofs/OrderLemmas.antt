-- The routes of rows are ordered exactly where the rows are sound.
use Rattle.std.proofs.Common.{◌≡◌, inl, inr, ◌∙◌, ℕ, ◌+◌, ◌<◌, ◌≤◌, List, [], ◌∷◌, ◌++◌, map, Bool, true, false, cond, refl, sym, arith, zero, suc, length}
use Rattle.std.specs.List.{filter, AllByRecursion}
use Rattle.guard_eval.proofs.ReadyLemmas.{all_left, all_right}
use Rattle.tree_rows.specs.Routes.{Route, Step, Branch, step, node_routes, row_routes, rows_routes}
use Rattle.tree_rows.specs.Order.{Earlier, AreOrdered, IsSoundRow, AreSound, Rise}
use Rattle.join_base.proofs.EachLemmas.{each_append as all_both, each_from}
use Rattle.std.specs.Prelude.{slice_index}

all_map : {X Y : Type 0} (P : Y → Type 0) (f : X → Y) (xs : List X) → AllByRecursion (λ x. P (f x)) xs → AllByRecursion P (map f xs)
all_map P f [] h = h
all_map P f (x ∷ xs) h = (h.0, all_map P f xs h.1)

all_map_back : {X Y : Type 0} (P : Y → Type 0) (f : X → Y) (xs : List X) → AllByRecursion P (map f xs) → AllByRecursion (λ x. P (f x)) xs
all_map_back P f [] h = h
all_map_back P f (x ∷ xs) h = (h.0, all_map_back P f xs h.1)

-- ---- behind a step

behind_earlier : (s : Step) (r t : Route) → Earlier (s ∷ r) (s ∷ t) → Earlier r t
behind_earlier s r t (inl l) = absurd (omega arith)
behind_earlier s r t (inr (inl l)) = absurd (let m = l.1 in omega arith)
behind_earlier s r t (inr (inr e)) = e.1

ordered_map : (s : Step) (routes : List Route) → AreOrdered routes → AreOrdered (map (λ r. s ∷ r) routes)
ordered_map s [] h = h
ordered_map s (r ∷ routes) h =
    (all_map (Earlier (s ∷ r)) (λ (x : Route). s ∷ x) routes (each_from (Earlier r) (λ x. Earlier (s ∷ r) (s ∷ x)) (λ x e. inr (inr (refl, e))) routes h.0), ordered_map s routes h.1)

ordered_map_back : (s : Step) (routes : List Route) → AreOrdered (map (λ r. s ∷ r) routes) → AreOrdered routes
ordered_map_back s [] h = h
ordered_map_back s (r ∷ routes) h =
    (each_from (λ x. Earlier (s ∷ r) (s ∷ x)) (Earlier r) (λ x e. behind_earlier s r x e) routes (all_map_back (Earlier (s ∷ r)) (λ (x : Route). s ∷ x) routes h.0), ordered_map_back s routes h.1)

-- ---- one list behind another

ordered_both : (xs ys : List Route) → AreOrdered xs → AreOrdered ys → AllByRecursion (λ x. AllByRecursion (Earlier x) ys) xs → AreOrdered (xs ++ ys)
ordered_both [] ys h k c = k
ordered_both (x ∷ xs) ys h k c = (all_both (Earlier x) xs ys h.0 c.0, ordered_both xs ys h.1 k c.1)

ordered_left : (xs ys : List Route) → AreOrdered (xs ++ ys) → AreOrdered xs
ordered_left [] ys h = tt
ordered_left (x ∷ xs) ys h = (all_left (Earlier x) xs ys h.0, ordered_left xs ys h.1)

ordered_right : (xs ys : List Route) → AreOrdered (xs ++ ys) → AreOrdered ys
ordered_right [] ys h = h
ordered_right (x ∷ xs) ys h = ordered_right xs ys h.1

-- ---- routes by their first step

-- the route begins with a step of the pattern, at a number of which P holds
abbrev StartsAt : ℕ → (ℕ → Type 0) → Route → Type 0
StartsAt q P [] = ⊥
StartsAt q P (s ∷ route) = (s.pattern ≡ q) × P s.number

node_starts : (q : ℕ) (P : ℕ → Type 0) (node : Branch) → P node.number → AllByRecursion (StartsAt q P) (node_routes q node)
node_starts q P node h = ((refl, h), all_map (StartsAt q P) (λ (r : Route). step q node.number ∷ r) node.routes (all_of node.routes))
  where
    all_of : (routes : List Route) → AllByRecursion (λ r. StartsAt q P (step q node.number ∷ r)) routes
    all_of [] = tt
    all_of (r ∷ routes) = ((refl, h), all_of routes)

row_starts : (q : ℕ) (P : ℕ → Type 0) (row : List Branch) → AllByRecursion (λ node. P node.number) row → AllByRecursion (StartsAt q P) (row_routes q row)
row_starts q P [] h = tt
row_starts q P (node ∷ row) h = all_both (StartsAt q P) (node_routes q node) (row_routes q row) (node_starts q P node h.0) (row_starts q P row h.1)

cross_numbers : (q m : ℕ) (r t : Route) → StartsAt q (λ n. n ≡ m) r → StartsAt q (λ n. m < n) t → Earlier r t
cross_numbers q m [] t h k = absurd h
cross_numbers q m (s ∷ r) [] h k = absurd k
cross_numbers q m (s ∷ r) (u ∷ t) h k = inr (inl (h.0 ∙ sym k.0, (let a = h.1 in let b = k.1 in omega arith)))

cross_node : (q : ℕ) (node : Branch) (row : List Branch) → AllByRecursion (λ later. node.number < later.number) row → AllByRecursion (λ x. AllByRecursion (Earlier x) (row_routes q row)) (node_routes q node)
cross_node q node row later =
    each_from (StartsAt q (λ n. n ≡ node.number)) (λ x. AllByRecursion (Earlier x) (row_routes q row))
    (λ x h. each_from (StartsAt q (λ n. node.number < n)) (Earlier x) (λ y k. cross_numbers q node.number x y h k) (row_routes q row) (row_starts q (λ n. node.number < n) row later))
    (node_routes q node) (node_starts q (λ n. n ≡ node.number) node refl)

pub later_numbers : (m : ℕ) (row : List Branch) → AllByRecursion (λ n. m < n) (map (λ node. node.number) row) → AllByRecursion (λ node. m < node.number) row
later_numbers m row h = all_map_back (λ (n : ℕ). m < n) (λ (node : Branch). node.number) row h

pub row_ordered : (q : ℕ) (row : List Branch) → IsSoundRow row → AreOrdered (row_routes q row)
row_ordered q [] h = tt
row_ordered q (node ∷ row) h =
    ordered_both (node_routes q node) (row_routes q row) (ordered_map (step q node.number) ([] ∷ node.routes) h.ordered.0)
    (row_ordered q row (record { rise = h.rise.1; ordered = h.ordered.1 })) (cross_node q node row (later_numbers node.number row h.rise.0))

first_earlier : (q m : ℕ) (later : Branch) (rest : List Route) (front : List Route) → AllByRecursion (Earlier (step q m ∷ [])) ((step q later.number ∷ []) ∷ rest) → m < later.number
first_earlier q m later rest front h = elim h.0 [
  | inl l ↦ absurd (omega arith)
  | inr k ↦ elim k [ inl e ↦ e.1 | inr e ↦ absurd e.1 ]
]

rises_from : (q m : ℕ) (row : List Branch) → AllByRecursion (Earlier (step q m ∷ [])) (row_routes q row) → AllByRecursion (λ n. m < n) (map (λ node. node.number) row)
rises_from q m [] h = tt
rises_from q m (node ∷ row) h = (
  first_earlier q m node (map (λ r. step q node.number ∷ r) node.routes) [] (all_left (Earlier (step q m ∷ [])) (node_routes q node) (row_routes q row) h),
  rises_from q m row (all_right (Earlier (step q m ∷ [])) (node_routes q node) (row_routes q row) h),
)

pub row_sound : (q : ℕ) (row : List Branch) → AreOrdered (row_routes q row) → IsSoundRow row
row_sound q [] h = record { rise = tt; ordered = tt }
row_sound q (node ∷ row) h =
    let others = row_sound q row (ordered_right (node_routes q node) (row_routes q row) h) in
    let s : Step = step q node.number in
    record {
      rise = (rises_from q node.number row (all_right (Earlier (s ∷ [])) (map (λ r. s ∷ r) node.routes) (row_routes q row) h.0), others.rise);
      ordered = (ordered_map_back s ([] ∷ node.routes) (ordered_left (node_routes q node) (row_routes q row) h), others.ordered);
    }

-- ---- rows

-- the route begins with a step of a pattern from this one on
abbrev StartsFrom : ℕ → Route → Type 0
StartsFrom p [] = ⊥
StartsFrom p (s ∷ route) = p ≤ s.pattern

starts_later : (p q : ℕ) (r : Route) → p ≤ q → StartsFrom q r → StartsFrom p r
starts_later p q [] l h = h
starts_later p q (s ∷ r) l h = omega arith

starts_from : (p : ℕ) (r : Route) → StartsAt p (λ n. Unit {0}) r → StartsFrom p r
starts_from p [] h = h
starts_from p (s ∷ r) h = let e = h.0 in omega arith

all_unit : (row : List Branch) → AllByRecursion (λ node. Unit {0}) row
all_unit [] = tt
all_unit (node ∷ row) = (tt, all_unit row)

rows_start : (p : ℕ) (rows : List (List Branch)) → AllByRecursion (StartsFrom p) (rows_routes p rows)
rows_start p [] = tt
rows_start p (row ∷ rows) =
    all_both (StartsFrom p) (row_routes p row) (rows_routes (p + 1) rows)
    (each_from (StartsAt p (λ n. Unit {0})) (StartsFrom p) (λ r h. starts_from p r h) (row_routes p row) (row_starts p (λ n. Unit {0}) row (all_unit row)))
    (each_from (StartsFrom (p + 1)) (StartsFrom p) (λ r h. starts_later p (p + 1) r (omega arith) h) (rows_routes (p + 1) rows) (rows_start (p + 1) rows))

cross_patterns : (p : ℕ) (r t : Route) → StartsAt p (λ n. Unit {0}) r → StartsFrom (p + 1) t → Earlier r t
cross_patterns p [] t h k = absurd h
cross_patterns p (s ∷ r) [] h k = absurd k
cross_patterns p (s ∷ r) (u ∷ t) h k = let e = h.0 in inl (omega arith)

pub rows_ordered : (p : ℕ) (rows : List (List Branch)) → AreSound rows → AreOrdered (rows_routes p rows)
rows_ordered p [] h = tt
rows_ordered p (row ∷ rows) h =
    ordered_both (row_routes p row) (rows_routes (p + 1) rows) (row_ordered p row h.0) (rows_ordered (p + 1) rows h.1)
    (each_from (StartsAt p (λ n. Unit {0})) (λ x. AllByRecursion (Earlier x) (rows_routes (p + 1) rows))
    (λ x k. each_from (StartsFrom (p + 1)) (Earlier x) (λ y m. cross_patterns p x y k m) (rows_routes (p + 1) rows) (rows_start (p + 1) rows))
    (row_routes p row) (row_starts p (λ n. Unit {0}) row (all_unit row)))

not_empty : (p : ℕ) (r : Route) → StartsFrom p r → Earlier [] r
not_empty p [] h = absurd h
not_empty p (s ∷ r) h = tt

-- sound rows have ordered routes behind the empty one
pub rows_ordered_behind : (p : ℕ) (rows : List (List Branch)) → AreSound rows → AreOrdered ([] ∷ rows_routes p rows)
rows_ordered_behind p rows h = (each_from (StartsFrom p) (Earlier []) (λ r k. not_empty p r k) (rows_routes p rows) (rows_start p rows), rows_ordered p rows h)

pub rows_sound : (p : ℕ) (rows : List (List Branch)) → AreOrdered (rows_routes p rows) → AreSound rows
rows_sound p [] h = tt
rows_sound p (row ∷ rows) h = (row_sound p row (ordered_left (row_routes p row) (rows_routes (p + 1) rows) h), rows_sound (p + 1) rows (ordered_right (row_routes p row) (rows_routes (p + 1) rows) h))

-- ---- what is left of ordered routes

earlier_filter : (p : Route → Bool) (r : Route) (xs : List Route) → AllByRecursion (Earlier r) xs → AllByRecursion (Earlier r) (filter p xs)
earlier_filter p r [] k = tt
earlier_filter p r (x ∷ xs) k = one (p x) (earlier_filter p r xs k.1)
  where
    one : (b : Bool) → AllByRecursion (Earlier r) (filter p xs) → AllByRecursion (Earlier r) (cond b (x ∷ filter p xs) (filter p xs))
    one true m = (k.0, m)
    one false m = m

pub ordered_filter : (p : Route → Bool) (routes : List Route) → AreOrdered routes → AreOrdered (filter p routes)
ordered_filter p [] h = tt
ordered_filter p (r ∷ routes) h = by (p r) (ordered_filter p routes h.1)
  where
    by : (b : Bool) → AreOrdered (filter p routes) → AreOrdered (cond b (r ∷ filter p routes) (filter p routes))
    by true later = (earlier_filter p r routes h.0, later)
    by false later = later

-- ---- numbers one after the other

-- numbers that rise, by their places
pub rise_at : (numbers : List ℕ) (i j : ℕ) → Rise numbers → i < j → j < length numbers → slice_index numbers i < slice_index numbers j
rise_at [] i j rise l m = absurd (omega arith)
rise_at (n ∷ numbers) i zero rise l m = absurd (omega arith)
rise_at (n ∷ numbers) zero (suc j) rise l m = each numbers j rise.0 (omega arith)
  where
    each : (ns : List ℕ) (k : ℕ) → AllByRecursion (λ x. n < x) ns → k < length ns → n < slice_index ns k
    each [] k h w = absurd (omega arith)
    each (x ∷ ns) zero h w = h.0
    each (x ∷ ns) (suc k) h w = each ns k h.1 (omega arith)
rise_at (n ∷ numbers) (suc i) (suc j) rise l m = rise_at numbers i j rise.1 (omega arith) (omega arith)
