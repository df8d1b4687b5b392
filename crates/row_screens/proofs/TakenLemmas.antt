-- The numbers of an assignment, in pattern order and in ascending order.
use Rattle.std.proofs.Common.{◌≡◌, ◌∙◌, ℕ, zero, suc, ◌+◌, ◌<◌, List, [], ◌∷◌, ◌++◌, take, min, max, Option, None, Some, slice_get, true, refl, ap, arith}
use Rattle.std.specs.List.{AllByRecursion}
use Rattle.join_base.specs.Numbers.{insert_ascending, ascending_onto, ascending}
use Rattle.guard_eval.specs.Meaning.{Assignment}
use Rattle.pattern_core.specs.Choice.{taken_of}
use Rattle.tree_rows.specs.Routes.{with_number}
use Rattle.row_screens.specs.Offers.{is_free}
use Rattle.row_screens.specs.Below.{AreBelow}

pub taken_more_some : (slots : Assignment) (i n : ℕ) → slice_get slots i ≡ Some (Some n) → taken_of (take (i + 1) slots) ≡ taken_of (take i slots) ++ n ∷ []
taken_more_some [] i n e = absurd cc
taken_more_some (slot ∷ slots) zero n e = let is : slot ≡ Some n = cc in ap (λ (s : Option ℕ). taken_of (s ∷ [])) is
taken_more_some (None ∷ slots) (suc i) n e = let more : suc i + 1 ≡ suc (i + 1) = omega arith in rw more (taken_more_some slots i n e)
taken_more_some (Some m ∷ slots) (suc i) n e = let more : suc i + 1 ≡ suc (i + 1) = omega arith in rw more (ap (λ (ns : List ℕ). m ∷ ns) (taken_more_some slots i n e))

pub taken_more_none : (slots : Assignment) (i : ℕ) → slice_get slots i ≡ Some None → taken_of (take (i + 1) slots) ≡ taken_of (take i slots)
taken_more_none [] i e = absurd cc
taken_more_none (slot ∷ slots) zero e = let is : slot ≡ None = cc in ap (λ (s : Option ℕ). taken_of (s ∷ [])) is
taken_more_none (None ∷ slots) (suc i) e = let more : suc i + 1 ≡ suc (i + 1) = omega arith in rw more (taken_more_none slots i e)
taken_more_none (Some m ∷ slots) (suc i) e = let more : suc i + 1 ≡ suc (i + 1) = omega arith in rw more (ap (λ (ns : List ℕ). m ∷ ns) (taken_more_none slots i e))

-- ---- ascending order

-- a number stands behind those before it
insert_last : (n : ℕ) (ns : List ℕ) → AllByRecursion (λ m. m < n) ns → insert_ascending n ns ≡ ns ++ n ∷ []
insert_last n [] h = refl
insert_last n (m ∷ ns) h =
    let least : min n m ≡ m = omega (arith, h.0) in
    let most : max n m ≡ n = omega (arith, h.0) in
    (λ i. least i ∷ insert_ascending (most i) ns) ∙ ap (λ (ms : List ℕ). m ∷ ms) (insert_last n ns h.1)

-- a lesser number is put in front of it
insert_before : (m n : ℕ) (ns : List ℕ) → m < n → AllByRecursion (λ k. k < n) ns → insert_ascending m (ns ++ n ∷ []) ≡ insert_ascending m ns ++ n ∷ []
insert_before m n [] l h = let least : min m n ≡ m = omega arith in let most : max m n ≡ n = omega arith in λ i. least i ∷ most i ∷ []
insert_before m n (k ∷ ns) l h = ap (λ (ms : List ℕ). min m k ∷ ms) (insert_before (max m k) n ns (omega (arith, h.0)) h.1)

insert_below : (m n : ℕ) (ns : List ℕ) → m < n → AllByRecursion (λ k. k < n) ns → AllByRecursion (λ k. k < n) (insert_ascending m ns)
insert_below m n [] l h = (l, tt)
insert_below m n (k ∷ ns) l h = (omega (arith, h.0), insert_below (max m k) n ns (omega (arith, h.0)) h.1)

-- the others are put among those in front
onto_before : (n : ℕ) (sorted ns : List ℕ) → AllByRecursion (λ k. k < n) sorted → AllByRecursion (λ k. k < n) ns → ascending_onto (sorted ++ n ∷ []) ns ≡ ascending_onto sorted ns ++ n ∷ []
onto_before n sorted [] hs hn = refl
onto_before n sorted (m ∷ ns) hs hn =
    ap (λ (ms : List ℕ). ascending_onto ms ns) (insert_before m n sorted hn.0 hs) ∙ onto_before n (insert_ascending m sorted) ns (insert_below m n sorted hn.0 hs) hn.1

below_taken : (n : ℕ) (slots : Assignment) → AreBelow n slots → AllByRecursion (λ k. k < n) (taken_of slots)
below_taken n [] h = tt
below_taken n (None ∷ slots) h = below_taken n slots h
below_taken n (Some k ∷ slots) h = (h.0, below_taken n slots h.1)

-- a further number that is after all others stands last
onto_further : (sorted : List ℕ) (slots : Assignment) (p n : ℕ) → is_free slots p ≡ true → AllByRecursion (λ k. k < n) sorted → AreBelow n slots
    → ascending_onto sorted (taken_of (with_number slots p n)) ≡ ascending_onto sorted (taken_of slots) ++ n ∷ []
onto_further sorted [] p n free hs h = absurd cc
onto_further sorted (Some k ∷ slots) zero n free hs h = absurd cc
onto_further sorted (None ∷ slots) zero n free hs h =
    ap (λ (ms : List ℕ). ascending_onto ms (taken_of slots)) (insert_last n sorted hs) ∙ onto_before n sorted (taken_of slots) hs (below_taken n slots h)
onto_further sorted (None ∷ slots) (suc p) n free hs h = onto_further sorted slots p n free hs h
onto_further sorted (Some k ∷ slots) (suc p) n free hs h = onto_further (insert_ascending k sorted) slots p n free (insert_below k n sorted h.0 hs) h.1

pub ascending_further : (slots : Assignment) (p n : ℕ) → is_free slots p ≡ true → AreBelow n slots → ascending (taken_of (with_number slots p n)) ≡ ascending (taken_of slots) ++ n ∷ []
ascending_further slots p n free h = onto_further [] slots p n free tt h
