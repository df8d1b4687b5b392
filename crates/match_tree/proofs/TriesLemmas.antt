-- The tries behind a path.
use Rattle.std.proofs.Common.{◌≡◌, ◌∙◌, ℕ, zero, suc, ◌+◌, ◌<◌, ◌≤◌, List, [], ◌∷◌, ◌++◌, map, length, Bool, true, false, not, ◌&&◌, ◌||◌, None, Some, slice_index, refl, sym, ap, arith}
use Rattle.std.specs.Prelude.{◌==◌, if◌then◌else◌}
use Rattle.std.specs.List.{filter, list_any}
use Rattle.std.proofs.lemmas.Bool.Decides.{nat_tests}
use Rattle.std.proofs.lemmas.List.Sums.{sum_by-append, sum_by-cons}
use Rattle.guard_eval.specs.Meaning.{Assignment, recorded_message, is_slot_filled}
use Rattle.pattern_core.specs.Matches.{is_of_kind, is_agreeable}
use Rattle.tree_rows.specs.Routes.{Route, Step, Branch, step, filled, with_number, node_routes}
use Rattle.row_screens.specs.Offers.{Offered, places, is_free, may_take, takers}
use Rattle.row_screens.specs.Below.{AreBelow}
use Rattle.match_tree.specs.Tries.{greatest, emptied_at, without_greatest, is_tried, tried, tries_behind}
use Rattle.row_screens.proofs.SlotsLemmas.{free_further}
use Rattle.tree_rows.proofs.ListLemmas.{filter_both}

greatest_below : (slots : Assignment) (m : ℕ) → AreBelow m slots → greatest slots ≤ m
greatest_below [] m h = omega arith
greatest_below (None ∷ slots) m h = greatest_below slots m h
greatest_below (Some k ∷ slots) m h = let l = h.0 in let r = greatest_below slots m h.1 in omega arith

greatest_further : (slots : Assignment) (q m : ℕ) → is_free slots q ≡ true → AreBelow m slots → greatest (with_number slots q m) ≡ m
greatest_further [] q m free h = absurd cc
greatest_further (Some k ∷ slots) zero m free h = absurd cc
greatest_further (None ∷ slots) zero m free h = let r = greatest_below slots m h in omega arith
greatest_further (None ∷ slots) (suc q) m free h = greatest_further slots q m free h
greatest_further (Some k ∷ slots) (suc q) m free h = let l = h.0 in let r = greatest_further slots q m free h.1 in omega arith

emptied_same : (m : ℕ) → emptied_at m (Some m) ≡ None
emptied_same m = let e : (m == m) ≡ true = grind (arith, nat_tests) in λ i. if e i then None else Some m

emptied_other : (m k : ℕ) → k < m → emptied_at m (Some k) ≡ Some k
emptied_other m k l = let e : (m == k) ≡ false = grind (arith, nat_tests) in λ i. if e i then None else Some k

emptied_below : (slots : Assignment) (m : ℕ) → AreBelow m slots → map (emptied_at m) slots ≡ slots
emptied_below [] m h = refl
emptied_below (None ∷ slots) m h = ap (λ (s : Assignment). None ∷ s) (emptied_below slots m h)
emptied_below (Some k ∷ slots) m h = λ i. emptied_other m k h.0 i ∷ emptied_below slots m h.1 i

emptied_further : (slots : Assignment) (q m : ℕ) → is_free slots q ≡ true → AreBelow m slots → map (emptied_at m) (with_number slots q m) ≡ slots
emptied_further [] q m free h = refl
emptied_further (Some k ∷ slots) zero m free h = absurd cc
emptied_further (None ∷ slots) zero m free h = λ i. emptied_same m i ∷ emptied_below slots m h i
emptied_further (None ∷ slots) (suc q) m free h = ap (λ (s : Assignment). None ∷ s) (emptied_further slots q m free h)
emptied_further (Some k ∷ slots) (suc q) m free h = λ i. emptied_other m k h.0 i ∷ emptied_further slots q m free h.1 i

without_further : (slots : Assignment) (q m : ℕ) → is_free slots q ≡ true → AreBelow m slots → without_greatest (with_number slots q m) ≡ slots
without_further slots q m free h = ap (λ (n : ℕ). map (emptied_at n) (with_number slots q m)) (greatest_further slots q m free h) ∙ emptied_further slots q m free h

filled_further : (slots : Assignment) (q m : ℕ) → is_free slots q ≡ true → list_any is_slot_filled (with_number slots q m) ≡ true
filled_further [] q m free = absurd cc
filled_further (slot ∷ slots) zero m free = refl
filled_further (None ∷ slots) (suc q) m free = filled_further slots q m free
filled_further (Some k ∷ slots) (suc q) m free = refl

regroup : (a t b : Bool) → ((a && b) && t) ≡ ((a && t) && b)
regroup false t b = refl
regroup true true true = refl
regroup true true false = refl
regroup true false true = refl
regroup true false false = refl

-- behind a path, a number is tried at the other patterns that could take it at the path
pub tried_further : (o : Offered) (slots : Assignment) (q m : ℕ) → is_free slots q ≡ true → AreBelow m slots → filter (λ p. not (p == q)) (takers o slots) ≡ tried o (with_number slots q m)
tried_further o slots q m free h =
    let kind : ℕ → Bool = λ p. is_of_kind (recorded_message o.messages o.number) (slice_index o.definition.patterns p) in
    let agrees : Assignment → ℕ → Bool = λ s p. is_agreeable o.messages o.definition.conjuncts (with_number s p o.number) in
    let is : (p : ℕ) → (may_take o slots p && not (p == q)) ≡ is_tried o (with_number slots q m) p =
    λ p. regroup (is_free slots p) (not (p == q)) (kind p && agrees slots p)
    ∙ sym (λ i. free_further slots q m p i && (kind p && (not (filled_further slots q m free i) || agrees (without_further slots q m free h i) p)))
    in
    filter_both (may_take o slots) (λ p. not (p == q)) (is_tried o (with_number slots q m)) is (places 0 o.definition.patterns)

pub tries_append : (o : Offered) (slots : Assignment) (xs ys : List Route) → tries_behind o slots (xs ++ ys) ≡ tries_behind o slots xs + tries_behind o slots ys
tries_append o slots xs ys = sum_by-append (λ (route : Route). length (tried o (filled slots route))) xs ys

tries_map : (o : Offered) (slots : Assignment) (s : Step) (routes : List Route) → tries_behind o slots (map (λ r. s ∷ r) routes) ≡ tries_behind o (with_number slots s.pattern s.number) routes
tries_map o slots s [] = refl
tries_map o slots s (r ∷ routes) =
    let longer : Assignment = with_number slots s.pattern s.number in
    sum_by-cons (λ (route : Route). length (tried o (filled slots route))) (s ∷ r) (map (λ x. s ∷ x) routes)
    ∙ ap (λ (n : ℕ). length (tried o (filled longer r)) + n) (tries_map o slots s routes)
    ∙ sym (sum_by-cons (λ (route : Route). length (tried o (filled longer route))) r routes)

-- the tries at a node and behind it
pub tries_node : (o : Offered) (slots : Assignment) (q : ℕ) (node : Branch)
    → tries_behind o slots (node_routes q node) ≡ length (tried o (with_number slots q node.number)) + tries_behind o (with_number slots q node.number) node.routes
tries_node o slots q node =
    sum_by-cons (λ (route : Route). length (tried o (filled slots route))) (step q node.number ∷ []) (map (λ x. step q node.number ∷ x) node.routes)
    ∙ ap (λ (n : ℕ). length (tried o (with_number slots q node.number)) + n) (tries_map o slots (step q node.number) node.routes)
