-- Rows of leaves alone, which are no more than their numbers.
use Rattle.std.proofs.Common.{◌≡◌, inl, inr, ◌∙◌, ℕ, zero, suc, ◌+◌, ◌<◌, ◌≤◌, ◌≢◌, List, [], ◌∷◌, ◌++◌, map, length, get_or, Option, None, Some, refl, sym, ap, subst, arith, option_to_list, length-append}
use Rattle.std.specs.Prelude.{MatchOption}
use Rattle.std.specs.List.{AllByRecursion, remove}
use Rattle.std.specs.List.Sorted.{IsNonDecreasingBy, IsPartitionPoint}
use Rattle.std.specs.Ordering.{nat_cmp, ordering_index}
use Rattle.std.specs.declared.cmp.Ordering.TheVariants.{Less, Equal, Greater}
use Rattle.std.proofs.lemmas.Bool.{cases_lt}
use Rattle.std.proofs.lemmas.Bool.Decides.{nat_tests}
use Rattle.std.proofs.lemmas.Cmp.{ranked}
use Rattle.std.proofs.lemmas.List.{length-map, get_or_default}
use Rattle.std.proofs.lemmas.List.Sorted.{IsNonDecreasingBy-from_default}
use Rattle.tree_rows.specs.Routes.{Branch, row_routes}
use Rattle.tree_rows.specs.Rows.{leaf, node_at}
use Rattle.tree_rows.specs.Order.{Rise}
use Rattle.tree_rows.specs.Pruned.{pruned}
use Rattle.tree_rows.proofs.PruneLemmas.{rise_le}
use Rattle.tree_rows.proofs.RowsLemmas.{get_or-map}

pub leaf_at : (ns : List ℕ) (i : ℕ) → node_at (map leaf ns) i ≡ leaf (get_or ns i 0)
leaf_at ns i = sym (get_or-map ns i 0 leaf)

-- from no leaf a route leads on
pub leaf_routes : (ns : List ℕ) (i : ℕ) (row : List Branch) → map leaf ns ≡ row → (node_at row i).routes ≡ []
leaf_routes ns i row is = ap (λ (xs : List Branch). (node_at xs i).routes) (sym is) ∙ ap (λ (node : Branch). node.routes) (leaf_at ns i)

pub leaf_numbers : (ns : List ℕ) → map (λ node. node.number) (map leaf ns) ≡ ns
leaf_numbers [] = refl
leaf_numbers (n ∷ ns) = ap (λ (ms : List ℕ). n ∷ ms) (leaf_numbers ns)

pub leaf_count : (ns : List ℕ) → length (row_routes 0 (map leaf ns)) ≡ length ns
leaf_count [] = refl
leaf_count (n ∷ ns) = ap suc (leaf_count ns)

-- no routes lead on from leaves
leaves_pruned : (numbers ns : List ℕ) → map (pruned numbers) (map leaf ns) ≡ map leaf ns
leaves_pruned numbers [] = refl
leaves_pruned numbers (n ∷ ns) = ap (λ (row : List Branch). leaf n ∷ row) (leaves_pruned numbers ns)

pub leaves_kept : (numbers ns : List ℕ) (row : List Branch) → row ≡ map leaf ns → row ≡ map (pruned numbers) row
leaves_kept numbers ns row is = is ∙ sym (leaves_pruned numbers ns) ∙ ap (map (pruned numbers)) (sym is)

pub leaves_remove : (ns : List ℕ) (i : ℕ) → map leaf (remove ns i) ≡ remove (map leaf ns) i
leaves_remove [] zero = refl
leaves_remove [] (suc i) = refl
leaves_remove (n ∷ ns) zero = refl
leaves_remove (n ∷ ns) (suc i) = ap (λ (row : List Branch). leaf n ∷ row) (leaves_remove ns i)

removed_last : (ns : List ℕ) (n : ℕ) → remove (ns ++ n ∷ []) (length ns) ≡ ns
removed_last [] n = refl
removed_last (m ∷ ns) n = ap (λ (xs : List ℕ). m ∷ xs) (removed_last ns n)

-- what a `pop_back` leaves is without the last
pub last_removed : (before left : List ℕ) (last : Option ℕ) (place m n : ℕ) → before ≡ left ++ option_to_list last → MatchOption last ((m ≡ 0) × (n ≡ 0)) (λ _. n + 1 ≡ m) → m ≡ length before → place + 1 ≡ length before → left ≡ remove before place
last_removed before left None place m n is cases long at = absurd (omega (arith, cases.0, long, at))
last_removed before left (Some x) place m n is cases long at =
    let there : length left ≡ place = omega (arith, at, ap (λ (xs : List ℕ). length xs) is, length-append left (x ∷ [])) in
    sym (removed_last left x) ∙ ap (remove (left ++ x ∷ [])) there ∙ ap (λ (xs : List ℕ). remove xs place) (sym is)

pub leaves_push : (ns : List ℕ) (n : ℕ) → map leaf (ns ++ n ∷ []) ≡ map leaf ns ++ leaf n ∷ []
leaves_push [] n = refl
leaves_push (m ∷ ns) n = ap (λ (row : List Branch). leaf m ∷ row) (leaves_push ns n)

-- ---- where a search finds a number

pub leaves_differ : (ns : List ℕ) (n : ℕ) → AllByRecursion (λ m. m ≢ n) ns → AllByRecursion (λ node. node.number ≢ n) (map leaf ns)
leaves_differ [] n h = tt
leaves_differ (m ∷ ns) n h = (h.0, leaves_differ ns n h.1)

numbers_rise : (ns : List ℕ) (i j : ℕ) → Rise ns → i ≤ j → j < length ns → get_or ns i 0 ≤ get_or ns j 0
numbers_rise ns i j rise l within =
    let up = rise_le (map leaf ns) i j (leaf 0) (subst Rise (sym (leaf_numbers ns)) rise) l (omega (arith, length-map ns leaf)) in
    let at : (k : ℕ) → (node_at (map leaf ns) k).number ≡ get_or ns k 0 = λ k. ap (λ (node : Branch). node.number) (leaf_at ns k) in
    omega (arith, at i, at j)

numbers_compare : (ns : List ℕ) (n : ℕ) → Rise ns → IsNonDecreasingBy (λ m. ordering_index (nat_cmp m n)) ns
numbers_compare ns n rise =
    IsNonDecreasingBy-from_default (λ m. ordering_index (nat_cmp m n)) ns 0
    (λ i j le in_range. let up = numbers_rise ns i j rise le in_range in grind (arith, nat_tests))

pub number_found : (ns : List ℕ) (n i : ℕ) → ((d : ℕ) → nat_cmp (get_or ns i d) n ≡ Equal) → (d : ℕ) → get_or ns i d ≡ n
number_found ns n i equal d = ranked (get_or ns i d) n Equal (sym (equal d))

from_places : (P : ℕ → Type 0) (ns : List ℕ) → ((k : ℕ) (d : ℕ) → k < length ns → P (get_or ns k d)) → AllByRecursion P ns
from_places P [] h = tt
from_places P (n ∷ ns) h = (h 0 n (omega arith), from_places P ns (λ k d l. h (suc k) d (omega arith)))

pub number_missing : (ns : List ℕ) (n i : ℕ) → Rise ns → i ≤ length ns
    → (IsNonDecreasingBy (λ m. ordering_index (nat_cmp m n)) ns → IsPartitionPoint (λ m. nat_cmp m n ≡ Less) (λ m. nat_cmp m n ≡ Greater) ns i)
    → AllByRecursion (λ m. m ≢ n) ns
number_missing ns n i rise within parted =
    let parts = parted (numbers_compare ns n rise) in
    from_places (λ m. m ≢ n) ns (λ k d l. elim (cases_lt k i) [
      | inl below ↦ λ e. let less : get_or ns k d < n = ranked (get_or ns k d) n Less (sym (parts.0 k d (omega arith) below)) in omega arith
      | inr above ↦ λ e. let more : n < get_or ns k d = ranked (get_or ns k d) n Greater (sym (parts.1 k d above l)) in omega arith
    ])

-- no number is this one, where those before a place are less, and it is less than that at the place
pub number_passed : (ns : List ℕ) (n i : ℕ) → Rise ns → ((k : ℕ) → k < i → get_or ns k 0 < n) → (i < length ns → n < get_or ns i 0) → AllByRecursion (λ m. m ≢ n) ns
number_passed ns n i rise less more =
    from_places (λ m. m ≢ n) ns (λ k d l.
    let same : get_or ns k d ≡ get_or ns k 0 = get_or_default ns k d 0 l in
    elim (cases_lt k i) [
      | inl below ↦ λ e. let before = less k below in omega arith
      | inr above ↦ λ e. let up = numbers_rise ns i k rise above l in let there = more (omega (arith, above, l)) in omega arith
    ])

-- none of the numbers is one above the last
pub last_below : (ns : List ℕ) (n i last : ℕ) → Rise ns → length ns ≡ i + 1 → last ≡ get_or ns i last → last < n → AllByRecursion (λ m. m ≢ n) ns
last_below ns n i last rise long is less =
    let at : get_or ns i last ≡ get_or ns i 0 = get_or_default ns i last 0 (omega arith) in
    from_places (λ m. m ≢ n) ns (λ k d l. let up = numbers_rise ns k i rise (omega arith) (omega arith) in let same : get_or ns k d ≡ get_or ns k 0 = get_or_default ns k d 0 l in λ e. omega arith)

leaf_number : (ns : List ℕ) (i : ℕ) (d : Branch) → i < length ns → (get_or (map leaf ns) i d).number ≡ get_or ns i 0
leaf_number ns i d within =
    let within' : i < length (map leaf ns) = omega (arith, length-map ns leaf) in
    ap (λ (node : Branch). node.number) (get_or_default (map leaf ns) i d (leaf 0) within' ∙ leaf_at ns i)

pub leaf_place : (ns : List ℕ) (n : ℕ) (place : Option ℕ) → MatchOption place (AllByRecursion (λ m. m ≢ n) ns) (λ i. (i < length ns) × ((d : ℕ) → get_or ns i d ≡ n))
    → MatchOption place (AllByRecursion (λ node. node.number ≢ n) (map leaf ns)) (λ i. (i < length (map leaf ns)) × ((d : Branch) → (get_or (map leaf ns) i d).number ≡ n))
leaf_place ns n None h = leaves_differ ns n h
leaf_place ns n (Some i) h = (omega (arith, h.0, length-map ns leaf), λ d. leaf_number ns i d h.0 ∙ h.1 0)
