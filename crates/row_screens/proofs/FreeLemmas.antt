-- How many patterns of a path are free, and what follows where a number takes one of them.
use Rattle.std.proofs.Common.{◌≡◌, ◌∙◌, ℕ, zero, suc, ◌+◌, ◌<◌, ◌≤◌, List, [], ◌∷◌, length, drop, get_or, map, Bool, true, false, not, ◌&&◌, cond, Option, Some, None, slice_get, slice_index, refl, sym, ap, arith}
use Rattle.std.specs.Prelude.{nat_lt}
use Rattle.std.specs.List.{filter, AllByRecursion}
use Rattle.std.proofs.lemmas.Bool.Decides.{nat_tests}
use Rattle.std.proofs.lemmas.List.{drop_more}
use Rattle.std.proofs.lemmas.Option.{slice_get-get_or}
use Rattle.guard_eval.specs.Meaning.{Assignment, recorded_message}
use Rattle.guard_eval.proofs.ExtendLemmas.{both_true}
use Rattle.pattern_core.specs.Choice.{candidate_of, least}
use Rattle.pattern_core.specs.Matches.{is_agreeable, is_full, is_of_kind, makes_all_true}
use Rattle.tree_rows.specs.Routes.{with_number}
use Rattle.row_screens.specs.Offers.{Offered, completes, is_free, leaves_one_free, matches_of}
use Rattle.row_screens.specs.Offering.{MayTake}
use Rattle.row_screens.specs.Trial.{free_count, free_of}

-- ---- counting them

pub same_slot : (x : Option (Option ℕ)) (a b : Option ℕ) → x ≡ Some a → x ≡ Some b → a ≡ b
same_slot None a b e f = absurd cc
same_slot (Some x) a b e f = cc

-- the first of those that are left
pub free_left : (slots : Assignment) (i n : ℕ) → i < length slots → ((slot : Option ℕ) → slice_get slots i ≡ Some slot → n ≡ free_of slot) → free_count (drop i slots) ≡ n + free_count (drop (i + 1) slots)
free_left slots i n within is =
    ap free_count (drop_more slots i None within) ∙ ap (λ (k : ℕ). k + free_count (drop (i + 1) slots)) (sym (is (get_or slots i None) (slice_get-get_or slots i None within)))

one_at_most : (slot : Option ℕ) → free_of slot ≤ 1
one_at_most None = omega arith
one_at_most (Some n) = omega arith

pub free_most : (slots : Assignment) (i n : ℕ) → i < length slots → ((slot : Option ℕ) → slice_get slots i ≡ Some slot → n ≡ free_of slot) → n ≤ 1
free_most slots i n within is = let most = one_at_most (get_or slots i None) in omega (arith, is (get_or slots i None) (slice_get-get_or slots i None within), most)

pub free_none : (slots : Assignment) (i : ℕ) → length slots ≤ i → free_count (drop i slots) ≡ 0
free_none [] zero l = refl
free_none [] (suc i) l = refl
free_none (slot ∷ slots) zero l = absurd (omega arith)
free_none (slot ∷ slots) (suc i) l = free_none slots i (omega arith)

-- ---- one of them takes a number

none_more : (k : ℕ) → nat_lt 1 (1 + k) ≡ nat_lt 0 k
none_more k = grind (arith, nat_tests)

none_here : (k : ℕ) → nat_lt 0 (0 + k) ≡ nat_lt 0 k
none_here k = grind (arith, nat_tests)

one_here : (k : ℕ) → nat_lt 0 (1 + k) ≡ true
one_here k = grind (arith, nat_tests)

two_there : (k : ℕ) → 0 < k → nat_lt 1 (1 + k) ≡ true
two_there k l = grind (arith, nat_tests)

two_here : (k : ℕ) → nat_lt 1 (0 + k) ≡ nat_lt 1 k
two_here k = grind (arith, nat_tests)

not_full : (slots : Assignment) → not (is_full slots) ≡ nat_lt 0 (free_count slots)
not_full [] = refl
not_full (None ∷ slots) = sym (one_here (free_count slots))
not_full (Some n ∷ slots) = not_full slots ∙ sym (none_here (free_count slots))

some_free : (slots : Assignment) (p : ℕ) → is_free slots p ≡ true → 0 < free_count slots
some_free [] p free = absurd cc
some_free (None ∷ slots) zero free = omega arith
some_free (Some n ∷ slots) zero free = absurd cc
some_free (None ∷ slots) (suc p) free = omega arith
some_free (Some n ∷ slots) (suc p) free = let more = some_free slots p free in omega arith

-- another is left free where there are two
pub free_leaves : (slots : Assignment) (p n : ℕ) → is_free slots p ≡ true → not (is_full (with_number slots p n)) ≡ nat_lt 1 (free_count slots)
free_leaves [] p n free = absurd cc
free_leaves (None ∷ slots) zero n free = not_full slots ∙ sym (none_more (free_count slots))
free_leaves (Some m ∷ slots) zero n free = absurd cc
free_leaves (None ∷ slots) (suc p) n free = sym (two_there (free_count slots) (some_free slots p free))
free_leaves (Some m ∷ slots) (suc p) n free = free_leaves slots p n free ∙ sym (two_here (free_count slots))

-- ---- what grows, and what is complete

module _ (o : Offered) (slots : Assignment) where
  free_taker : (p : ℕ) → MayTake o slots p → is_free slots p ≡ true
  free_taker p may = (both_true (is_free slots p) (is_of_kind (recorded_message o.messages o.number) (slice_index o.definition.patterns p) && is_agreeable o.messages o.definition.conjuncts (with_number slots p o.number)) may).0

  not_true : (b : Bool) → not b ≡ true → b ≡ false
  not_true true e = absurd cc
  not_true false e = refl

  -- where each leaves one free, none completes a match
  pub none_match : (ps : List ℕ) → ((p : ℕ) → is_free slots p ≡ true → leaves_one_free o slots p ≡ true) → AllByRecursion (MayTake o slots) ps → None ≡ least (matches_of o slots ps)
  none_match ps leaves may = ap (λ (qs : List ℕ). least (map (λ (p : ℕ). candidate_of o.rule (with_number slots p o.number)) qs)) (sym (none ps may))
    where
      incomplete : (p : ℕ) → MayTake o slots p → completes o slots p ≡ false
      incomplete p m = λ i. not_true (is_full (with_number slots p o.number)) (leaves p (free_taker p m)) i && makes_all_true o.messages o.definition.conjuncts (with_number slots p o.number)

      none : (qs : List ℕ) → AllByRecursion (MayTake o slots) qs → filter (completes o slots) qs ≡ []
      none [] m = refl
      none (q ∷ qs) m = (λ i. cond (incomplete q m.0 i) (q ∷ filter (completes o slots) qs) (filter (completes o slots) qs)) ∙ none qs m.1

  pub all_grow : (ps : List ℕ) → ((p : ℕ) → is_free slots p ≡ true → leaves_one_free o slots p ≡ true) → AllByRecursion (MayTake o slots) ps → filter (leaves_one_free o slots) ps ≡ ps
  all_grow [] leaves may = refl
  all_grow (p ∷ ps) leaves may = λ i. cond (leaves p (free_taker p may.0) i) (p ∷ all_grow ps leaves may.1 i) (filter (leaves_one_free o slots) ps)

  pub none_grow : (ps : List ℕ) → ((p : ℕ) → is_free slots p ≡ true → leaves_one_free o slots p ≡ false) → AllByRecursion (MayTake o slots) ps → filter (leaves_one_free o slots) ps ≡ []
  none_grow [] leaves may = refl
  none_grow (p ∷ ps) leaves may = (λ i. cond (leaves p (free_taker p may.0) i) (p ∷ filter (leaves_one_free o slots) ps) (filter (leaves_one_free o slots) ps)) ∙ none_grow ps leaves may.1
