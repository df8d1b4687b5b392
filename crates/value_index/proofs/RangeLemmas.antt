-- The numbers of a span of values, by the order of a column.
use Rattle.std.proofs.Common.{◌≡◌, ◌∙◌, inl, inr, ℕ, ℤ, ◌<◌, ◌≤◌, ◌<ℤ◌, List, [], ◌∷◌, Bool, true, false, cond, Option, Some, None, refl, sym, ap, subst, arith}
use Rattle.std.proofs.lemmas.Int.{ints}
use Rattle.std.specs.Prelude.{◌&&◌, int_le}
use Rattle.std.specs.declared.ops.Bound.TheVariants.{Included, Unbounded}
use Rattle.std.specs.BTreeMap.Range.{range_contains}
use Rattle.std.specs.BTreeSet.{BTreeSet, IsOrdered, keys_between}
use Rattle.std.specs.List.Sorted.{IsStrictlySortedBy}
use Rattle.std.proofs.lemmas.List.Kept.{IsStrictlySortedBy-filter}
use Rattle.std.specs.Ordering.{is_gt, is_le, nat_cmp, int_cmp, ordering_then, ordering_reverse, MatchOrdering}
use Rattle.std.specs.declared.cmp.Ordering.{Ordering}
use Rattle.std.specs.declared.cmp.Ordering.TheVariants.{Less, Equal, Greater}
use Rattle.std.specs.Cmp.{IsTotalOrder, int_ranks}
use Rattle.std.specs.List.{AllByRecursion}
use Rattle.std.proofs.lemmas.Cmp.{int_cmp_total, ranked, tied_itself}
use Rattle.std.proofs.lemmas.Map.Keys.{sorted_head, sorted_tail}
use Rattle.std.proofs.lemmas.Bool.Decides.{nat_tests}
use Rattle.pattern_core.specs.Members.{IsIn}
use Rattle.pattern_core.proofs.MembersLemmas.{IsIn-filter, IsIn-filter_from}
use Rattle.value_index.specs.declared.valued.Valued.{Valued}
use Rattle.value_index.specs.Columns.{valued}
use Rattle.value_index.specs.Order.{valued_cmp, IsFromStart, IsUpTo}
use Rattle.value_index.specs.ValueRange.{Ascend, is_up_to, lies_in, numbers_of, one_value}

-- ---- a part of the set

not_le : (o : Ordering) → is_gt o ≡ false → is_le o ≡ true
not_le Less e = refl
not_le Equal e = refl
not_le Greater e = absurd cc

le_not : (o : Ordering) → is_le o ≡ true → is_gt o ≡ false
le_not Less e = refl
le_not Equal e = refl
le_not Greater e = absurd cc

and_left : (a b : Bool) → (a && b) ≡ true → a ≡ true
and_left true b e = refl
and_left false b e = absurd cc

pub from_start : (s : BTreeSet Valued) (start : Valued) (r : List Valued) → IsOrdered valued_cmp s → r ≡ keys_between valued_cmp (Included start) Unbounded s → IsFromStart s.keys start r
from_start s start r ordered is =
    let test : Valued → Bool = range_contains valued_cmp (Included start) Unbounded in
    record {
      sorted = subst (IsStrictlySortedBy valued_cmp) (sym is) (IsStrictlySortedBy-filter valued_cmp test s.keys ordered);
      above = λ e m.
          let there = (IsIn-filter_from test e s.keys (subst (IsIn e) is m)).1 in
          le_not (valued_cmp start e) (and_left (is_le (valued_cmp start e)) true there);
      has = λ e l m.
          let le = not_le (valued_cmp start e) l in
          let passes : test e ≡ true = λ i. le i && true in
          subst (IsIn e) (sym is) (IsIn-filter test e s.keys passes m);
    }

-- ---- values in their order

not_gt : (o p : Ordering) → is_gt (ordering_then o p) ≡ false → is_gt o ≡ false
not_gt Less p e = refl
not_gt Equal p e = refl
not_gt Greater p e = e

tied : {K : Type 0} (R : K → K → Ordering) → IsTotalOrder R → (x y : K) → is_gt (R x y) ≡ false → is_gt (R y x) ≡ false → R x y ≡ Equal
tied R o x y first second = by (R x y) (R y x) (o.antisymm x y) first second
  where
    by : (p q : Ordering) → p ≡ ordering_reverse q → is_gt p ≡ false → is_gt q ≡ false → p ≡ Equal
    by Equal q e f g = refl
    by Greater q e f g = absurd cc
    by Less Less e f g = absurd cc
    by Less Equal e f g = absurd cc
    by Less Greater e f g = absurd cc

not_gt_from_le : (m n : ℕ) → m ≤ n → is_gt (nat_cmp m n) ≡ false
not_gt_from_le m n l = grind (arith, nat_tests)

le_past : (a b : ℤ) → int_le a b ≡ true → b <ℤ a → ⊥
le_past a b h l = absurd (grind (arith, ints))

le_less : (a b : ℤ) → a <ℤ b → int_le a b ≡ true
le_less a b h = grind (arith, ints)

pub le_itself : (a : ℤ) → int_le a a ≡ true
le_itself a = grind (arith, ints)

le_chain : (a b c : ℤ) → int_le a b ≡ true → int_le b c ≡ true → int_le a c ≡ true
le_chain a b c h k = grind (arith, ints)

-- what an order says of two integers
int_at_most : (a b : ℤ) → is_gt (int_cmp a b) ≡ false → int_le a b ≡ true
int_at_most a b g = by (int_cmp a b) (int_ranks a b) g
  where
    by : (o : Ordering) → MatchOrdering o (a <ℤ b) (a ≡ b) (b <ℤ a) → is_gt o ≡ false → int_le a b ≡ true
    by Less h g = le_less a b h
    by Equal h g = subst (λ (x : ℤ). int_le a x ≡ true) h (le_itself a)
    by Greater h g = absurd cc

int_tied : (a b : ℤ) → int_le a b ≡ true → is_gt (int_cmp b a) ≡ false → a ≡ b
int_tied a b l g = by (int_cmp b a) (int_ranks b a) g
  where
    by : (o : Ordering) → MatchOrdering o (b <ℤ a) (b ≡ a) (a <ℤ b) → is_gt o ≡ false → a ≡ b
    by Less h g = absurd (le_past a b l h)
    by Equal h g = sym h
    by Greater h g = absurd cc

-- one of a value that is not below the least one is not before the start
pub from_low : (low value : ℤ) (from number : ℕ) → int_le low value ≡ true → from ≤ number → IsUpTo (valued low from) (valued value number)
from_low low value from number up l = by (int_cmp low value) (int_ranks low value)
  where
    by : (o : Ordering) → MatchOrdering o (low <ℤ value) (low ≡ value) (value <ℤ low) → is_gt (ordering_then o (nat_cmp from number)) ≡ false
    by Less h = refl
    by Equal h = not_gt_from_le from number l
    by Greater h = absurd (le_past low value up h)

-- what stands before a value has no greater one
value_before : (value : ℤ) (number : ℕ) (v : Valued) → IsUpTo v (valued value number) → int_le v.value value ≡ true
value_before value number v before = int_at_most v.value value (not_gt (int_cmp v.value value) (nat_cmp v.number number) before)

-- those of one value are in the order of their numbers
numbers_in_order : (value : ℤ) (m n : ℕ) → valued_cmp (valued value m) (valued value n) ≡ nat_cmp m n
numbers_in_order value m n =
    let v : int_cmp value value ≡ Equal = tied_itself int_cmp_total value in
    λ i. ordering_then (v i) (nat_cmp m n)

-- ---- the numbers of a span

up_to_less : (high : Option ℤ) (a b : ℤ) → int_le a b ≡ true → is_up_to high b ≡ true → is_up_to high a ≡ true
up_to_less None a b l h = refl
up_to_less (Some high) a b l h = le_chain a b high l h

tests_true : (a b : Bool) → a ≡ true → b ≡ true → (a && b) ≡ true
tests_true a b e f = λ i. e i && f i

pub first_number : (high : Option ℤ) (vs rest : List Valued) (v : Valued) → vs ≡ v ∷ rest → is_up_to high v.value ≡ true → numbers_of high vs ≡ v.number ∷ numbers_of high rest
first_number high vs rest v is one = ap (numbers_of high) is ∙ (λ i. cond (one i) (v.number ∷ numbers_of high rest) [])

pub no_number : (high : Option ℤ) (vs rest : List Valued) (v : Valued) → vs ≡ v ∷ rest → is_up_to high v.value ≡ false → numbers_of high vs ≡ []
no_number high vs rest v is other = ap (numbers_of high) is ∙ (λ i. cond (other i) (v.number ∷ numbers_of high rest) [])

-- one value alone has it
pub lies_alone : (place : ℕ) (value : ℤ) → lies_in (one_value place value) value ≡ true
lies_alone place value = tests_true (int_le value value) (int_le value value) (le_itself value) (le_itself value)

less_in : (e y : Valued) (ys : List Valued) → AllByRecursion (λ x. valued_cmp e x ≡ Less) ys → IsIn y ys → valued_cmp e y ≡ Less
less_in e y [] h m = absurd m
less_in e y (x ∷ ys) h (inl is) = subst (λ (z : Valued). valued_cmp e z ≡ Less) is h.0
less_in e y (x ∷ ys) h (inr m) = less_in e y ys h.1 m

-- one behind the start is among the numbers where its value is not too great
pub number_in : (high : Option ℤ) (vs : List Valued) → IsStrictlySortedBy valued_cmp vs → (value : ℤ) (n : ℕ) → is_up_to high value ≡ true → IsIn (valued value n) vs → IsIn n (numbers_of high vs)
number_in high [] s value n up m = absurd m
number_in high (v ∷ vs) s value n up (inl is) =
    let one = ap (λ (x : Valued). is_up_to high x.value) is ∙ up in
    subst (λ (b : Bool). IsIn n (cond b (v.number ∷ numbers_of high vs) [])) (sym one) (inl (ap (λ (x : Valued). x.number) is))
number_in high (v ∷ vs) s value n up (inr m) =
    let less : valued_cmp v (valued value n) ≡ Less = less_in v (valued value n) vs (sorted_head valued_cmp v vs s) m in
    let one = up_to_less high v.value value (value_before value n v (ap is_gt less)) up in
    subst (λ (b : Bool). IsIn n (cond b (v.number ∷ numbers_of high vs) [])) (sym one) (inr (number_in high vs (sorted_tail valued_cmp v vs s) value n up m))

-- ---- those of one value ascend

has_low : (high : Option ℤ) (low : ℤ) (from : ℕ) (v : Valued) → high ≡ Some low → IsUpTo (valued low from) v → is_up_to high v.value ≡ true → v.value ≡ low
has_low high low from v alone above h =
    let behind : is_gt (int_cmp low v.value) ≡ false = not_gt (int_cmp low v.value) (nat_cmp from v.number) above in
    let before : int_le v.value low ≡ true = subst (λ (x : Option ℤ). is_up_to x v.value ≡ true) alone h in
    int_tied v.value low before behind

lesser : (low : ℤ) (a b : Valued) → a.value ≡ low → b.value ≡ low → valued_cmp a b ≡ Less → a.number < b.number
lesser low a b x y less =
    let same : valued_cmp a b ≡ valued_cmp (valued low a.number) (valued low b.number) = λ i. valued_cmp (record { value = x i; number = a.number }) (record { value = y i; number = b.number }) in
    ranked a.number b.number Less (sym less ∙ same ∙ numbers_in_order low a.number b.number)

pub ascend : (high : Option ℤ) (low : ℤ) (from : ℕ) (vs : List Valued) → high ≡ Some low → IsStrictlySortedBy valued_cmp vs → ((v : Valued) → IsIn v vs → IsUpTo (valued low from) v) → Ascend (numbers_of high vs)
ascend high low from [] alone s above = tt
ascend high low from (v ∷ vs) alone s above = by (is_up_to high v.value) refl (ascend high low from vs alone (sorted_tail valued_cmp v vs s) (λ x m. above x (inr m)))
  where
    below : v.value ≡ low → (ys : List Valued) → AllByRecursion (λ y. valued_cmp v y ≡ Less) ys → ((y : Valued) → IsIn y ys → IsUpTo (valued low from) y) → AllByRecursion (λ m. v.number < m) (numbers_of high ys)
    below first [] h up = tt
    below first (y ∷ ys) h up = next (is_up_to high y.value) refl (below first ys h.1 (λ x m. up x (inr m)))
      where
        next : (b : Bool) → is_up_to high y.value ≡ b → AllByRecursion (λ m. v.number < m) (numbers_of high ys) → AllByRecursion (λ m. v.number < m) (cond b (y.number ∷ numbers_of high ys) [])
        next true two later = (lesser low v y first (has_low high low from y alone (up y (inl refl)) two) h.0, later)
        next false two later = tt

    by : (b : Bool) → is_up_to high v.value ≡ b → Ascend (numbers_of high vs) → Ascend (cond b (v.number ∷ numbers_of high vs) [])
    by true one later = (below (has_low high low from v alone (above v (inl refl)) one) vs (sorted_head valued_cmp v vs s) (λ x m. above x (inr m)), later)
    by false one later = tt

-- ---- numbers that were seen to ascend

less_all : (last number : ℕ) (numbers : List ℕ) → last < number → AllByRecursion (λ m. number < m) numbers → AllByRecursion (λ m. last < m) numbers
less_all last number [] l h = tt
less_all last number (m ∷ numbers) l h = let up = h.0 in (omega arith, less_all last number numbers l h.1)

pub ascend_more : (last number : ℕ) (numbers : List ℕ) → last < number → Ascend (number ∷ numbers) → Ascend (last ∷ number ∷ numbers)
ascend_more last number numbers l h = ((l, less_all last number numbers l h.0), h)
