-- Leaving nodes out of rows.
use Rattle.std.proofs.Common.{◌≡◌, inl, inr, ◌∙◌, ℕ, zero, suc, ◌+◌, ◌-◌, ◌<◌, ◌≤◌, ◌≢◌, List, [], ◌∷◌, ◌++◌, map, length, take, drop, get_or, Bool, true, false, not, ◌&&◌, ◌||◌, cond, refl, sym, ap, subst, arith, length-append}
use Rattle.std.specs.Prelude.{◌==◌}
use Rattle.std.specs.List.{filter, AllByRecursion}
use Rattle.std.specs.List.Sorted.{IsNonDecreasingBy, IsPartitionPoint}
use Rattle.std.specs.Ordering.{nat_cmp, ordering_index}
use Rattle.std.specs.declared.cmp.Ordering.TheVariants.{Less, Equal, Greater}
use Rattle.std.proofs.lemmas.Bool.{cases_lt}
use Rattle.join_base.proofs.EachLemmas.{each_append as all_both}
use Rattle.std.proofs.lemmas.Cmp.{ranked}
use Rattle.std.proofs.lemmas.List.Sorted.{IsNonDecreasingBy-from_default}
use Rattle.std.proofs.lemmas.Bool.Decides.{nat_tests}
use Rattle.std.proofs.lemmas.List.{get_or_default, length-map}
use Rattle.std.proofs.lemmas.List.Elements.{filter-append}
use Rattle.tree_rows.specs.Routes.{Route, Step, Branch, step, node_routes, row_routes, rows_routes, lacks}
use Rattle.join_base.specs.Taken.{contains_number}
use Rattle.tree_rows.specs.Order.{AreOrdered, Rise, IsOrderedNode}
use Rattle.tree_rows.specs.Pruned.{AreRising, AreShort, NodesRise, RiseFrom, pruned, without_number, without_numbers}
use Rattle.tree_rows.proofs.ListLemmas.{filter_both}
use Rattle.guard_eval.proofs.ReadyLemmas.{all_left, all_right}
use Rattle.tree_rows.proofs.OrderLemmas.{later_numbers}
pub use Rattle.join_base.proofs.EachLemmas.{each_filter as all_filtered}

-- ---- taking one number out

pub differs_keeps : (n : ℕ) (row : List Branch) → AllByRecursion (λ node. node.number ≢ n) row → without_number n row ≡ row
differs_keeps n [] h = refl
differs_keeps n (node ∷ row) h =
    let e : (n == node.number) ≡ false = let d = h.0 in grind (arith, nat_tests) in
    λ i. cond (not (e i)) (node ∷ differs_keeps n row h.1 i) (differs_keeps n row h.1 i)

later_differ : (n : ℕ) (row : List Branch) → AllByRecursion (λ node. n < node.number) row → AllByRecursion (λ node. node.number ≢ n) row
later_differ n [] h = tt
later_differ n (node ∷ row) h = ((λ e. let l = h.0 in omega arith), later_differ n row h.1)

pub removed_is : (n : ℕ) (row : List Branch) (i : ℕ) (d : Branch) → Rise (map (λ node. node.number) row) → i < length row → (get_or row i d).number ≡ n → without_number n row ≡ take i row ++ drop (i + 1) row
removed_is n [] i d rise within is = absurd (omega arith)
removed_is n (node ∷ row) zero d rise within is =
    let e : (n == node.number) ≡ true = grind (arith, nat_tests) in
    let rest = differs_keeps n row (later_differ n row (let Later : ℕ → Type 0 = λ m. AllByRecursion (λ x. m < x.number) row in subst Later is (later_numbers node.number row rise.0))) in
    (λ j. cond (not (e j)) (node ∷ without_number n row) (without_number n row)) ∙ rest
removed_is n (node ∷ row) (suc i) d rise within is =
    let less : node.number < n = let l = all_here node.number row i d (omega arith) (later_numbers node.number row rise.0) in omega arith in
    let e : (n == node.number) ≡ false = grind (arith, nat_tests) in
    let more : suc i + 1 ≡ suc (i + 1) = omega arith in
    let later = removed_is n row i d rise.1 (omega arith) is in
    rw more ((λ j. cond (not (e j)) (node ∷ later j) (later j)))
  where
    all_here : (m : ℕ) (xs : List Branch) (k : ℕ) (b : Branch) → k < length xs → AllByRecursion (λ x. m < x.number) xs → m < (get_or xs k b).number
    all_here m [] k b w h = absurd (omega arith)
    all_here m (x ∷ xs) zero b w h = h.0
    all_here m (x ∷ xs) (suc k) b w h = all_here m xs k b (omega arith) h.1

-- ---- where a search finds a number

pub rise_le : (row : List Branch) (i j : ℕ) (d : Branch) → Rise (map (λ node. node.number) row) → i ≤ j → j < length row → (get_or row i d).number ≤ (get_or row j d).number
rise_le [] i j d rise l w = absurd (omega arith)
rise_le (node ∷ row) zero zero d rise l w = omega arith
rise_le (node ∷ row) zero (suc j) d rise l w = let later = at_place row j (omega arith) (later_numbers node.number row rise.0) in omega arith
  where
    at_place : (xs : List Branch) (k : ℕ) → k < length xs → AllByRecursion (λ x. node.number < x.number) xs → node.number < (get_or xs k d).number
    at_place [] k h a = absurd (omega arith)
    at_place (x ∷ xs) zero h a = a.0
    at_place (x ∷ xs) (suc k) h a = at_place xs k (omega arith) a.1
rise_le (node ∷ row) (suc i) zero d rise l w = absurd (omega arith)
rise_le (node ∷ row) (suc i) (suc j) d rise l w = rise_le row i j d rise.1 (omega arith) (omega arith)

from_places : (P : Branch → Type 0) (row : List Branch) → ((k : ℕ) (d : Branch) → k < length row → P (get_or row k d)) → AllByRecursion P row
from_places P [] h = tt
from_places P (node ∷ row) h = (h 0 node (omega arith), from_places P row (λ k d l. h (suc k) d (omega arith)))

compares_rise : (row : List Branch) (n : ℕ) → Rise (map (λ node. node.number) row) → IsNonDecreasingBy (λ node. ordering_index (nat_cmp node.number n)) row
compares_rise row n rise =
    IsNonDecreasingBy-from_default (λ node. ordering_index (nat_cmp node.number n)) row (record { number = 0; routes = [] })
    (λ i j le in_range. let up = rise_le row i j (record { number = 0; routes = [] }) rise le in_range in grind (arith, nat_tests))

pub place_found : (row : List Branch) (n i : ℕ) → i < length row → ((d : Branch) → nat_cmp (get_or row i d).number n ≡ Equal) → (d : Branch) → (get_or row i d).number ≡ n
place_found row n i within equal d = ranked (get_or row i d).number n Equal (sym (equal d))

pub place_missing : (row : List Branch) (n i : ℕ) → Rise (map (λ node. node.number) row) → i ≤ length row
    → (IsNonDecreasingBy (λ node. ordering_index (nat_cmp node.number n)) row → IsPartitionPoint (λ node. nat_cmp node.number n ≡ Less) (λ node. nat_cmp node.number n ≡ Greater) row i)
    → AllByRecursion (λ node. node.number ≢ n) row
place_missing row n i rise within parted =
    let parts = parted (compares_rise row n rise) in
    from_places (λ node. node.number ≢ n) row (λ k d l. elim (cases_lt k i) [
      | inl below ↦ λ e. let less : (get_or row k d).number < n = ranked (get_or row k d).number n Less (sym (parts.0 k d (omega arith) below)) in omega arith
      | inr above ↦ λ e. let more : n < (get_or row k d).number = ranked (get_or row k d).number n Greater (sym (parts.1 k d above l)) in omega arith
    ])

-- no node has a number above that of the last
pub last_node_below : (row : List Branch) (n i : ℕ) (last : Branch) → Rise (map (λ node. node.number) row) → length row ≡ i + 1 → last ≡ get_or row i last → last.number < n → AllByRecursion (λ node. node.number ≢ n) row
last_node_below row n i last rise long is less =
    let at = ap (λ (node : Branch). node.number) is in
    from_places (λ node. node.number ≢ n) row (λ k d l.
    let up = rise_le row k i last rise (omega arith) (omega arith) in
    let same = ap (λ (node : Branch). node.number) (get_or_default row k d last l) in
    λ e. omega arith)

-- ---- taking several numbers out

eq_back : (a b : ℕ) → (a == b) ≡ (b == a)
eq_back a b = grind (arith, nat_tests)

pub one_of_more : (ns : List ℕ) (n m : ℕ) → contains_number (ns ++ n ∷ []) m ≡ (contains_number ns m || (m == n))
one_of_more [] n m = or_false (m == n)
  where
    or_false : (b : Bool) → (b || false) ≡ b
    or_false true = refl
    or_false false = refl
one_of_more (k ∷ ns) n m = ap (λ (b : Bool). (m == k) || b) (one_of_more ns n m) ∙ or_assoc (m == k) (contains_number ns m) (m == n)
  where
    or_assoc : (a b c : Bool) → (a || (b || c)) ≡ ((a || b) || c)
    or_assoc true b c = refl
    or_assoc false b c = refl

neither : (a b : Bool) → (not a && not b) ≡ not (a || b)
neither true b = refl
neither false b = refl

pub without_more : (ns : List ℕ) (n : ℕ) (row : List Branch) → without_number n (without_numbers ns row) ≡ without_numbers (ns ++ n ∷ []) row
without_more ns n row =
    filter_both (λ node. not (contains_number ns node.number)) (λ node. not (n == node.number)) (λ node. not (contains_number (ns ++ n ∷ []) node.number))
    (λ node. (λ i. not (contains_number ns node.number) && not (eq_back n node.number i)) ∙ neither (contains_number ns node.number) (node.number == n) ∙ sym (ap not (one_of_more ns n node.number))) row

pub without_none : (row : List Branch) → row ≡ without_numbers [] row
without_none [] = refl
without_none (node ∷ row) = ap (λ (xs : List Branch). node ∷ xs) (without_none row)

all_kept : (m : ℕ) (p : Branch → Bool) (row : List Branch) → AllByRecursion (λ n. m < n) (map (λ node. node.number) row) → AllByRecursion (λ n. m < n) (map (λ node. node.number) (filter p row))
all_kept m p [] h = tt
all_kept m p (node ∷ row) h = by (p node) (all_kept m p row h.1)
  where
    by : (b : Bool) → AllByRecursion (λ n. m < n) (map (λ x. x.number) (filter p row)) → AllByRecursion (λ n. m < n) (map (λ x. x.number) (cond b (node ∷ filter p row) (filter p row)))
    by true later = (h.0, later)
    by false later = later

pub rise_filter : (p : Branch → Bool) (row : List Branch) → Rise (map (λ node. node.number) row) → Rise (map (λ node. node.number) (filter p row))
rise_filter p [] h = tt
rise_filter p (node ∷ row) h = by (p node) (rise_filter p row h.1)
  where
    by : (b : Bool) → Rise (map (λ x. x.number) (filter p row)) → Rise (map (λ x. x.number) (cond b (node ∷ filter p row) (filter p row)))
    by true later = (all_kept node.number p row h.0, later)
    by false later = later

-- ---- the routes that are left

lacks_step : (ns : List ℕ) (s : Step) (routes : List Route) (b : Bool) → not (contains_number ns s.number) ≡ b → filter (lacks ns) (map (λ r. s ∷ r) routes) ≡ cond b (map (λ r. s ∷ r) (filter (lacks ns) routes)) []
lacks_step ns s [] true e = refl
lacks_step ns s [] false e = refl
lacks_step ns s (r ∷ routes) true e = by (lacks ns r) refl (lacks_step ns s routes true e)
  where
    by : (t : Bool) → lacks ns r ≡ t → filter (lacks ns) (map (λ x. s ∷ x) routes) ≡ map (λ x. s ∷ x) (filter (lacks ns) routes)
        → cond (not (contains_number ns s.number) && lacks ns r) ((s ∷ r) ∷ filter (lacks ns) (map (λ x. s ∷ x) routes)) (filter (lacks ns) (map (λ x. s ∷ x) routes)) ≡ map (λ x. s ∷ x) (cond t (r ∷ filter (lacks ns) routes) (filter (lacks ns) routes))
    by true k later = λ i. cond (e i && k i) ((s ∷ r) ∷ later i) (later i)
    by false k later = λ i. cond (e i && k i) ((s ∷ r) ∷ later i) (later i)
lacks_step ns s (r ∷ routes) false e = (λ i. cond (e i && lacks ns r) ((s ∷ r) ∷ filter (lacks ns) (map (λ x. s ∷ x) routes)) (filter (lacks ns) (map (λ x. s ∷ x) routes))) ∙ lacks_step ns s routes false e

pub pruned_row : (ns : List ℕ) (q : ℕ) (row : List Branch) → row_routes q (map (pruned ns) (without_numbers ns row)) ≡ filter (lacks ns) (row_routes q row)
pruned_row ns q [] = refl
pruned_row ns q (node ∷ row) = by (not (contains_number ns node.number)) refl (pruned_row ns q row)
  where
    by : (b : Bool) → not (contains_number ns node.number) ≡ b → row_routes q (map (pruned ns) (without_numbers ns row)) ≡ filter (lacks ns) (row_routes q row)
        → row_routes q (map (pruned ns) (cond b (node ∷ without_numbers ns row) (without_numbers ns row))) ≡ filter (lacks ns) (node_routes q node ++ row_routes q row)
    by true e later = (λ i. sym (lacks_step ns (step q node.number) ([] ∷ node.routes) true e) i ++ later i) ∙ sym (filter-append (lacks ns) (node_routes q node) (row_routes q row))
    by false e later = later ∙ (λ i. sym (lacks_step ns (step q node.number) ([] ∷ node.routes) false e) i ++ filter (lacks ns) (row_routes q row)) ∙ sym (filter-append (lacks ns) (node_routes q node) (row_routes q row))

-- ---- short routes

short_behind : (m : ℕ) (s : Step) (routes : List Route) → AreShort m (map (λ r. s ∷ r) routes) → AreShort (m - 1) routes
short_behind m s [] h = tt
short_behind m s (r ∷ routes) h = ((let l = h.0 in omega arith), short_behind m s routes h.1)

pub short_below : (m q : ℕ) (row : List Branch) → AreShort m (row_routes q row) → AllByRecursion (λ node. AreShort (m - 1) node.routes) row
short_below m q [] h = tt
short_below m q (node ∷ row) h =
    let P : Route → Type 0 = λ r. length r ≤ m in
    let here = all_left P (node_routes q node) (row_routes q row) h in
    (short_behind m (step q node.number) node.routes here.1, short_below m q row (all_right P (node_routes q node) (row_routes q row) h))

no_route : (m : ℕ) (routes : List Route) → m ≤ 1 → AreOrdered ([] ∷ routes) → AreShort (m - 1) routes → routes ≡ []
no_route m [] l ordered short = refl
no_route m ([] ∷ routes) l ordered short = absurd ordered.0.0
no_route m ((s ∷ r) ∷ routes) l ordered short = absurd (let h = short.0 in omega arith)

-- nodes at the last level have nothing to prune
pub pruned_leaves : (ns : List ℕ) (m : ℕ) (row : List Branch) → m ≤ 1 → AllByRecursion IsOrderedNode row → AllByRecursion (λ node. AreShort (m - 1) node.routes) row → map (pruned ns) row ≡ row
pruned_leaves ns m [] l ordered short = refl
pruned_leaves ns m (node ∷ row) l ordered short =
    let none = no_route m node.routes l ordered.0 short.0 in
    let same : pruned ns node ≡ node = (λ i. record { number = node.number; routes = filter (lacks ns) (none i) }) ∙ (λ i. record { number = node.number; routes = sym none i }) in
    λ i. same i ∷ pruned_leaves ns m row l ordered.1 short.1 i

pub leaves_count : (m q : ℕ) (row : List Branch) → m ≤ 1 → AllByRecursion IsOrderedNode row → AllByRecursion (λ node. AreShort (m - 1) node.routes) row → length row ≡ length (row_routes q row)
leaves_count m q [] l ordered short = refl
leaves_count m q (node ∷ row) l ordered short =
    let none = ap (λ (rs : List Route). length rs) (no_route m node.routes l ordered.0 short.0) in
    let later = leaves_count m q row l ordered.1 short.1 in
    let both = length-append (node_routes q node) (row_routes q row) in
    let here = length-map node.routes (λ (r : Route). step q node.number ∷ r) in
    omega arith

short_step : (m p q n : ℕ) (routes : List Route) → AreShort m (map (λ r. step p n ∷ r) routes) → AreShort m (map (λ r. step q n ∷ r) routes)
short_step m p q n [] h = tt
short_step m p q n (r ∷ routes) h = (h.0, short_step m p q n routes h.1)

pub short_row : (m p q : ℕ) (row : List Branch) → AreShort m (row_routes p row) → AreShort m (row_routes q row)
short_row m p q [] h = tt
short_row m p q (node ∷ row) h =
    let P : Route → Type 0 = λ r. length r ≤ m in
    all_both P (node_routes q node) (row_routes q row) (short_step m p q node.number ([] ∷ node.routes) (all_left P (node_routes p node) (row_routes p row) h))
    (short_row m p q row (all_right P (node_routes p node) (row_routes p row) h))

pub row_count : (p q : ℕ) (row : List Branch) → length (row_routes p row) ≡ length (row_routes q row)
row_count p q [] = refl
row_count p q (node ∷ row) =
    let a = length-append (node_routes p node) (row_routes p row) in
    let b = length-append (node_routes q node) (row_routes q row) in
    let c = length-map node.routes (λ (r : Route). step p node.number ∷ r) in
    let d = length-map node.routes (λ (r : Route). step q node.number ∷ r) in
    let later = row_count p q row in
    omega arith

pub rows_count : (p q : ℕ) (rows : List (List Branch)) → length (rows_routes p rows) ≡ length (rows_routes q rows)
rows_count p q [] = refl
rows_count p q (row ∷ rows) =
    let a = length-append (row_routes p row) (rows_routes (p + 1) rows) in
    let b = length-append (row_routes q row) (rows_routes (q + 1) rows) in
    let here = row_count p q row in
    let later = rows_count (p + 1) (q + 1) rows in
    omega arith

pub short_rows : (m p q : ℕ) (rows : List (List Branch)) → AreShort m (rows_routes p rows) → AreShort m (rows_routes q rows)
short_rows m p q [] h = tt
short_rows m p q (row ∷ rows) h =
    let P : Route → Type 0 = λ r. length r ≤ m in
    all_both P (row_routes q row) (rows_routes (q + 1) rows) (short_row m p q row (all_left P (row_routes p row) (rows_routes (p + 1) rows) h))
    (short_rows m (p + 1) (q + 1) rows (all_right P (row_routes p row) (rows_routes (p + 1) rows) h))

pub all_rows : (P : Route → Type 0) (p : ℕ) (rows : List (List Branch)) (i : ℕ) (d : List Branch) → i < length rows → AllByRecursion P (rows_routes p rows) → AllByRecursion P (row_routes (p + i) (get_or rows i d))
all_rows P p [] i d within h = absurd (omega arith)
all_rows P p (row ∷ rows) zero d within h =
    let same : p ≡ p + 0 = omega arith in
    subst (λ (k : ℕ). AllByRecursion P (row_routes k row)) same (all_left P (row_routes p row) (rows_routes (p + 1) rows) h)
all_rows P p (row ∷ rows) (suc i) d within h =
    let same : p + 1 + i ≡ p + suc i = omega arith in
    subst (λ (k : ℕ). AllByRecursion P (row_routes k (get_or rows i d))) same (all_rows P (p + 1) rows i d (omega arith) (all_right P (row_routes p row) (rows_routes (p + 1) rows) h))

all_drop_from : (P : Route → Type 0) (p : ℕ) (rows : List (List Branch)) (i : ℕ) → AllByRecursion P (rows_routes p rows) → AllByRecursion P (rows_routes (p + i) (drop i rows))
all_drop_from P p rows zero h = let same : p ≡ p + 0 = omega arith in subst (λ (k : ℕ). AllByRecursion P (rows_routes k rows)) same h
all_drop_from P p [] (suc i) h = h
all_drop_from P p (row ∷ rows) (suc i) h =
    let same : p + 1 + i ≡ p + suc i = omega arith in
    subst (λ (k : ℕ). AllByRecursion P (rows_routes k (drop i rows))) same (all_drop_from P (p + 1) rows i (all_right P (row_routes p row) (rows_routes (p + 1) rows) h))

pub all_rows_drop : (P : Route → Type 0) (rows : List (List Branch)) (i : ℕ) → AllByRecursion P (rows_routes 0 rows) → AllByRecursion P (rows_routes i (drop i rows))
all_rows_drop P rows i h = let same : 0 + i ≡ i = omega arith in subst (λ (k : ℕ). AllByRecursion P (rows_routes k (drop i rows))) same (all_drop_from P 0 rows i h)

-- ---- routes whose numbers rise

pub rising_behind : (n : ℕ) (routes : List Route) → RiseFrom n routes → AreRising routes
rising_behind n [] h = tt
rising_behind n (r ∷ routes) h = (h.0.1, rising_behind n routes h.1)

mapped_rising : (s : Step) (routes : List Route) → AreRising (map (λ r. s ∷ r) routes) → RiseFrom s.number routes
mapped_rising s [] h = tt
mapped_rising s (r ∷ routes) h = (h.0, mapped_rising s routes h.1)

pub rising_below : (q : ℕ) (row : List Branch) → AreRising (row_routes q row) → NodesRise row
rising_below q [] h = tt
rising_below q (node ∷ row) h =
    let P : Route → Type 0 = λ r. Rise (map (λ s. s.number) r) in
    (mapped_rising (step q node.number) node.routes (all_left P (node_routes q node) (row_routes q row) h).1, rising_below q row (all_right P (node_routes q node) (row_routes q row) h))

rising_step : (p q n : ℕ) (routes : List Route) → AreRising (map (λ r. step p n ∷ r) routes) → AreRising (map (λ r. step q n ∷ r) routes)
rising_step p q n [] h = tt
rising_step p q n (r ∷ routes) h = (h.0, rising_step p q n routes h.1)

-- whatever the pattern of the row
pub rising_row : (p q : ℕ) (row : List Branch) → AreRising (row_routes p row) → AreRising (row_routes q row)
rising_row p q [] h = tt
rising_row p q (node ∷ row) h =
    let P : Route → Type 0 = λ r. Rise (map (λ s. s.number) r) in
    all_both P (node_routes q node) (row_routes q row) (rising_step p q node.number ([] ∷ node.routes) (all_left P (node_routes p node) (row_routes p row) h))
    (rising_row p q row (all_right P (node_routes p node) (row_routes p row) h))

-- numbers that are not greater than a node's are not behind it
contains_none : (ns : List ℕ) (m s : ℕ) → AllByRecursion (λ n. n ≤ m) ns → m < s → contains_number ns s ≡ false
contains_none [] m s h l = refl
contains_none (n ∷ ns) m s h l =
    let less = h.0 in
    let e : (s == n) ≡ false = grind (arith, nat_tests) in
    λ i. e i || contains_none ns m s h.1 l i

lacks_up_to : (ns : List ℕ) (m : ℕ) (route : Route) → AllByRecursion (λ n. n ≤ m) ns → AllByRecursion (λ k. m < k) (map (λ s. s.number) route) → lacks ns route ≡ true
lacks_up_to ns m [] h l = refl
lacks_up_to ns m (s ∷ route) h l = (λ i. not (contains_none ns m s.number h l.0 i) && lacks ns route) ∙ lacks_up_to ns m route h l.1

pub pruned_up_to : (ns : List ℕ) (node : Branch) → AllByRecursion (λ n. n ≤ node.number) ns → RiseFrom node.number node.routes → node ≡ pruned ns node
pruned_up_to ns node h rising = λ i. record { number = node.number; routes = sym (kept node.routes rising) i }
  where
    kept : (routes : List Route) → RiseFrom node.number routes → filter (lacks ns) routes ≡ routes
    kept [] r = refl
    kept (x ∷ routes) r = λ i. cond (lacks_up_to ns node.number x h r.0.0 i) (x ∷ kept routes r.1 i) (kept routes r.1 i)
