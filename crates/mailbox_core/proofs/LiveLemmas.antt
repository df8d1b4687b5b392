-- Numbers at their places, some of them taken out.
use Rattle.std.proofs.Common.{◌≡◌, ◌∙◌, ℕ, zero, suc, ◌+◌, ◌-◌, ◌<◌, ◌≤◌, List, [], ◌∷◌, ◌++◌, inl, inr, length, Bool, true, false, not, get_or, set, take, drop, refl, ap, sym, nat_cmp, Less, Option, None, Some, length-append, arith}
use Rattle.std.specs.Prelude.{◌==◌, ◌||◌, cond, replicate, MatchOption}
use Rattle.std.specs.Option.{option_to_list}
use Rattle.std.specs.List.{AllByRecursion, filter}
use Rattle.std.specs.List.Sorted.{IsStrictlyIncreasing, IsStrictlySortedBy}
use Rattle.std.proofs.lemmas.Map.Keys.{IsStrictlyIncreasing-from_sorted}
use Rattle.std.proofs.lemmas.Bool.{eq-eqb, ne_eqb, eqb-true, false≢true}
use Rattle.std.proofs.lemmas.List.{append-nil, drop_all, length-drop, length-replicate, length-take-le, take-append-le, take_all, take_at}
use borrow.Rule.Slice.PartMut.{post_of}
use Rattle.std.proofs.lemmas.List.Elements.{filter-append}
use Rattle.std.specs.Cmp.{nat_cmp_is}
use Rattle.std.proofs.Math.ListN.{get_or-eq_default}
use Rattle.std.proofs.Math.Seq.{get_or-append_seam}
use Rattle.join_base.specs.Taken.{contains_number, without}
use Rattle.mailbox_core.specs.Live.{InPlace, is_number}
use Rattle.join_base.proofs.EachLemmas.{each_from}

zero_is_none : (c : ℕ) → c ≡ 0 → is_number c ≡ false
zero_is_none c e = ap (λ (n : ℕ). is_number n) e

there : (n : ℕ) → 1 ≤ n → is_number n ≡ true
there n h = ap not (ne_eqb n 0 (λ e. omega arith))

-- a cell that is taken out is passed over, and one that is there stands first
gone_first : (c : ℕ) (cells : List ℕ) → c ≡ 0 → filter is_number (c ∷ cells) ≡ filter is_number cells
gone_first c cells e = rw (zero_is_none c e) refl

number_first : (c n : ℕ) (cells : List ℕ) → c ≡ n → 1 ≤ n → filter is_number (c ∷ cells) ≡ n ∷ filter is_number cells
number_first c n cells e h = ap (λ (x : ℕ). filter is_number (x ∷ cells)) e ∙ rw (there n h) refl

pub numbers_above : (m from : ℕ) (cells : List ℕ) → m ≤ from → 1 ≤ from → InPlace from cells → AllByRecursion (λ n. m ≤ n) (filter is_number cells)
numbers_above m from [] low some h = tt
numbers_above m from (c ∷ cells) low some h =
    let more = numbers_above m (from + 1) cells (omega arith) (omega arith) h.1 in
    elim h.0 [ inl e ↦ rw (gone_first c cells e) more | inr e ↦ rw (number_first c from cells e some) (low, more) ]

-- a number below all is not among them
none_equal : (n : ℕ) (xs : List ℕ) → AllByRecursion (λ m. n + 1 ≤ m) xs → contains_number xs n ≡ false
none_equal n [] h = refl
none_equal n (x ∷ xs) h = rw (ne_eqb n x (λ e. let low = h.0 in omega arith)) (none_equal n xs h.1)

none_taken : (n : ℕ) (xs : List ℕ) → AllByRecursion (λ m. n + 1 ≤ m) xs → without xs (n ∷ []) ≡ xs
none_taken n [] h = refl
none_taken n (x ∷ xs) h = rw (ne_eqb x n (λ e. let low = h.0 in omega arith)) (ap (λ (ys : List ℕ). x ∷ ys) (none_taken n xs h.1))

-- whether a number is left stands in its cell
pub contains_at : (from : ℕ) (cells : List ℕ) (k n : ℕ) → n ≡ from + k → 1 ≤ from → InPlace from cells → contains_number (filter is_number cells) n ≡ (get_or cells k 0 == n)
contains_at from [] k n at some h = sym (ne_eqb 0 n (λ e. omega arith))
contains_at from (c ∷ cells) zero n at some h =
    let rest = none_equal n (filter is_number cells) (numbers_above (n + 1) (from + 1) cells (omega arith) (omega arith) h.1) in
    elim h.0 [
      | inl e ↦ rw (gone_first c cells e) (rest ∙ sym (ne_eqb c n (λ z. omega arith)))
      | inr e ↦ rw (number_first c from cells e some) (rw (eq-eqb n from (omega arith)) (sym (eq-eqb c n (omega arith))))
    ]
contains_at from (c ∷ cells) (suc k) n at some h =
    let more = contains_at (from + 1) cells k n (omega arith) (omega arith) h.1 in
    elim h.0 [
      | inl e ↦ rw (gone_first c cells e) more
      | inr e ↦ rw (number_first c from cells e some) (rw (ne_eqb n from (λ z. omega arith)) more)
    ]

pub no_zero : (cells : List ℕ) (n : ℕ) → n ≡ 0 → InPlace 1 cells → contains_number (filter is_number cells) n ≡ false
no_zero cells n e h = none_equal n (filter is_number cells) (numbers_above (n + 1) 1 cells (omega arith) (omega arith) h)

pub none_beyond : (cells : List ℕ) (n : ℕ) → length cells < n → InPlace 1 cells → contains_number (filter is_number cells) n ≡ false
none_beyond cells n beyond h = contains_at 1 cells (n - 1) n (omega arith) (omega arith) h ∙ rw (get_or-eq_default cells 0 {n = n - 1} (omega arith)) (ne_eqb 0 n (λ e. omega arith))

-- a 0 in its cell takes a number out
pub removed_at : (from : ℕ) (cells : List ℕ) (k n : ℕ) → n ≡ from + k → 1 ≤ from → InPlace from cells → filter is_number (set cells k 0) ≡ without (filter is_number cells) (n ∷ [])
removed_at from [] k n at some h = refl
removed_at from (c ∷ cells) zero n at some h =
    let rest = sym (none_taken n (filter is_number cells) (numbers_above (n + 1) (from + 1) cells (omega arith) (omega arith) h.1)) in
    elim h.0 [
      | inl e ↦ rw (gone_first c cells e) rest
      | inr e ↦ rw (number_first c from cells e some) (rw (eq-eqb from n (omega arith)) rest)
    ]
removed_at from (c ∷ cells) (suc k) n at some h =
    let more = removed_at (from + 1) cells k n (omega arith) (omega arith) h.1 in
    elim h.0 [
      | inl e ↦ rw (gone_first c cells e) (gone_first c (set cells k 0) e ∙ more)
      | inr e ↦ rw (number_first c from cells e some) (rw (ne_eqb from n (λ z. omega arith)) (number_first c from (set cells k 0) e some ∙ ap (λ (ns : List ℕ). from ∷ ns) more))
    ]

pub InPlace-set : (from : ℕ) (cells : List ℕ) (k : ℕ) → InPlace from cells → InPlace from (set cells k 0)
InPlace-set from [] k h = tt
InPlace-set from (c ∷ cells) zero h = (inl refl, h.1)
InPlace-set from (c ∷ cells) (suc k) h = (h.0, InPlace-set (from + 1) cells k h.1)

pub InPlace-push : (from : ℕ) (cells : List ℕ) (n : ℕ) → n ≡ from + length cells → InPlace from cells → InPlace from (cells ++ n ∷ [])
InPlace-push from [] n e h = (inr (omega arith), tt)
InPlace-push from (c ∷ cells) n e h = (h.0, InPlace-push (from + 1) cells n (omega arith) h.1)

pub InPlace-front : (from : ℕ) (cells more : List ℕ) → InPlace from (cells ++ more) → InPlace from cells
InPlace-front from [] more h = tt
InPlace-front from (c ∷ cells) more h = (h.0, InPlace-front (from + 1) cells more h.1)

pub InPlace-zeros : (from count : ℕ) → InPlace from (replicate count 0)
InPlace-zeros from zero = tt
InPlace-zeros from (suc count) = (inl refl, InPlace-zeros (from + 1) count)

pub no_numbers : (count : ℕ) → filter is_number (replicate count 0) ≡ []
no_numbers zero = refl
no_numbers (suc count) = no_numbers count

-- the numbers of cells are recorded, and stand in ascending order
pub numbers_recorded : (from : ℕ) (cells : List ℕ) → 1 ≤ from → InPlace from cells → AllByRecursion (λ n. (1 ≤ n) × (n + 1 ≤ from + length cells)) (filter is_number cells)
numbers_recorded from [] some h = tt
numbers_recorded from (c ∷ cells) some h =
    let more : AllByRecursion (λ n. (1 ≤ n) × (n + 1 ≤ from + length (c ∷ cells))) (filter is_number cells) = each_from _ _ (λ n r. (r.0, omega (arith, r.1))) _ (numbers_recorded (from + 1) cells (omega arith) h.1) in
    elim h.0 [ inl e ↦ rw (gone_first c cells e) more | inr e ↦ rw (number_first c from cells e some) ((some, omega arith), more) ]

numbers_sorted : (from : ℕ) (cells : List ℕ) → 1 ≤ from → InPlace from cells → IsStrictlySortedBy nat_cmp (filter is_number cells)
unfolding IsStrictlySortedBy
numbers_sorted from [] some h = tt
numbers_sorted from (c ∷ cells) some h =
    let more = numbers_sorted (from + 1) cells (omega arith) h.1 in
    let above = each_from (λ n. from + 1 ≤ n) (λ n. nat_cmp from n ≡ Less) (λ n low. sym (nat_cmp_is from n Less (omega arith))) _ (numbers_above (from + 1) (from + 1) cells (omega arith) (omega arith) h.1) in
    elim h.0 [ inl e ↦ rw (gone_first c cells e) more | inr e ↦ rw (number_first c from cells e some) (above, more) ]

pub numbers_ascending : (cells : List ℕ) → InPlace 1 cells → IsStrictlyIncreasing (filter is_number cells)
numbers_ascending cells h = IsStrictlyIncreasing-from_sorted (filter is_number cells) (numbers_sorted 1 cells (omega arith) h)

-- the last number, which is left, stands in the last cell
pub last_number : (cells front : List ℕ) (last : Option ℕ) (before after : ℕ) → before ≡ length cells → cells ≡ front ++ option_to_list last → MatchOption last ((before ≡ 0) × (after ≡ 0)) (λ _. after + 1 ≡ before) → InPlace 1 cells → contains_number (filter is_number cells) (length cells) ≡ true → filter is_number cells ≡ filter is_number front ++ length cells ∷ []
last_number cells front None before after long e cases h found = absurd (false≢true (sym (no_zero cells (length cells) (sym long ∙ cases.0) h) ∙ found))
last_number cells front (Some x) before after long e cases h found =
    let count : length cells ≡ length front + 1 = ap length e ∙ length-append front (x ∷ []) in
    let cell : get_or cells (length front) 0 ≡ x = ap (λ (xs : List ℕ). get_or xs (length front) 0) e ∙ get_or-append_seam front x [] 0 in
    let is : x ≡ length cells = sym cell ∙ eqb-true _ _ (sym (contains_at 1 cells (length front) (length cells) (omega arith) (omega arith) h) ∙ found) in
    let one : filter is_number (x ∷ []) ≡ length cells ∷ [] = number_first x (length cells) [] is (omega arith) in
    ap (filter is_number) e ∙ filter-append is_number front (x ∷ []) ∙ ap (λ (xs : List ℕ). filter is_number front ++ xs) one

first_step : (a b : Bool) (x : ℕ) (all front ns : List ℕ) → b ≡ contains_number ns x → all ≡ without front ns → cond (not (a || b)) (x ∷ all) all ≡ without (cond (not (a || false)) (x ∷ front) front) ns
first_step true b x all front ns is e = e
first_step false true x all front ns is e = e ∙ ap (λ (c : Bool). cond (not c) (x ∷ without front ns) (without front ns)) is
first_step false false x all front ns is e = ap (λ (ys : List ℕ). x ∷ ys) e ∙ ap (λ (c : Bool). cond (not c) (x ∷ without front ns) (without front ns)) is

-- without the first of some numbers, and then without the others
pub without_first : (xs : List ℕ) (n : ℕ) (ns : List ℕ) → without xs (n ∷ ns) ≡ without (without xs (n ∷ [])) ns
without_first [] n ns = refl
without_first (x ∷ xs) n ns = first_step (x == n) (contains_number ns x) x (without xs (n ∷ ns)) (without xs (n ∷ [])) ns refl (without_first xs n ns)

pub without_none : (xs : List ℕ) → without xs [] ≡ xs
without_none [] = refl
without_none (x ∷ xs) = ap (λ (ys : List ℕ). x ∷ ys) (without_none xs)

-- ---- cells that are 0 at the front

-- a cell with a number stands behind them
behind_zeros : (cells : List ℕ) (k j : ℕ) → take k cells ≡ replicate k 0 → 1 ≤ get_or cells j 0 → k ≤ j
behind_zeros cells zero j e some = omega arith
behind_zeros [] (suc k) j e some = omega (arith, some)
behind_zeros (c ∷ cells) (suc k) zero e some = let gone = ap (λ (xs : List ℕ). get_or xs 0 0) e in omega (arith, some, gone)
behind_zeros (c ∷ cells) (suc k) (suc j) e some = let more = behind_zeros cells k j (ap (drop 1) e) some in omega (arith, more)

pub zeros_within : (cells : List ℕ) (k : ℕ) → take k cells ≡ replicate k 0 → k ≤ length cells
zeros_within cells zero e = omega arith
zeros_within [] (suc k) e = let long = ap length e in omega (arith, long)
zeros_within (c ∷ cells) (suc k) e = let more = zeros_within cells k (ap (drop 1) e) in omega (arith, more)

pub zeros-push : (cells more : List ℕ) (k : ℕ) → take k cells ≡ replicate k 0 → take k (cells ++ more) ≡ replicate k 0
zeros-push cells more k e = take-append-le k cells more (zeros_within cells k e) ∙ e

pub zeros-set : (cells : List ℕ) (k j : ℕ) → take k cells ≡ replicate k 0 → take k (set cells j 0) ≡ replicate k 0
zeros-set cells zero j e = refl
zeros-set [] (suc k) j e = e
zeros-set (c ∷ cells) (suc k) zero e = ap (λ (xs : List ℕ). 0 ∷ drop 1 xs) e
zeros-set (c ∷ cells) (suc k) (suc j) e =
    let first = ap (λ (xs : List ℕ). get_or xs 0 0) e in
    ap (λ (x : ℕ). x ∷ take k (set cells j 0)) first ∙ ap (λ (xs : List ℕ). 0 ∷ xs) (zeros-set cells k j (ap (drop 1) e))

one_at_most : (last : Option ℕ) → length (option_to_list last) ≤ 1
one_at_most None = omega arith
one_at_most (Some x) = omega arith

-- the last number stands in the last cell, so that the zeros are in front of it
pub zeros-pop : (cells front : List ℕ) (last : Option ℕ) (k : ℕ) → cells ≡ front ++ option_to_list last → InPlace 1 cells → contains_number (filter is_number cells) (length cells) ≡ true → take k cells ≡ replicate k 0 → take k front ≡ replicate k 0
zeros-pop [] front last k e h found zeros = absurd (false≢true found)
zeros-pop (c ∷ cells) front last k e h found zeros =
    let cell : get_or (c ∷ cells) (length cells) 0 ≡ length (c ∷ cells) = eqb-true _ _ (sym (contains_at 1 (c ∷ cells) (length cells) (length (c ∷ cells)) (omega arith) (omega arith) h) ∙ found) in
    let low = behind_zeros (c ∷ cells) k (length cells) zeros (omega (arith, cell)) in
    let count : length (c ∷ cells) ≡ length front + length (option_to_list last) = ap length e ∙ length-append front (option_to_list last) in
    let one = one_at_most last in
    sym (take-append-le k front (option_to_list last) (omega (arith, low, count, one))) ∙ ap (take k) (sym e) ∙ zeros

-- zeros behind those at the front make all 0
pub all_zeros : (cells : List ℕ) (k : ℕ) → take k cells ≡ replicate k 0 → take k cells ++ replicate (length cells - k) 0 ≡ replicate (length cells) 0
all_zeros cells zero e = let all : length cells - 0 ≡ length cells = omega arith in ap (λ (n : ℕ). replicate n 0) all
all_zeros [] (suc k) e = let long = ap length e in absurd (omega (arith, long))
all_zeros (c ∷ cells) (suc k) e =
    let first = ap (λ (xs : List ℕ). get_or xs 0 0) e in
    let left : suc (length cells) - suc k ≡ length cells - k = omega arith in
    ap (λ (n : ℕ). c ∷ (take k cells ++ replicate n 0)) left ∙ ap (λ (x : ℕ). x ∷ (take k cells ++ replicate (length cells - k) 0)) first ∙ ap (λ (xs : List ℕ). 0 ∷ xs) (all_zeros cells k (ap (drop 1) e))

-- a fill of the part behind the zeros, as it is seen in the vector
pub cleared_to : (cells now part : List ℕ) (k len : ℕ) → now ≡ cells → len ≡ length cells → part ≡ replicate (length (take (length now - k) (drop k now))) 0 → take k cells ≡ replicate k 0
    → let whole : List ℕ = take k now ++ (part ++ post_of k (length now - k) now) in take len (whole ++ drop (length whole) cells) ≡ replicate len 0
cleared_to cells now part k len same long filled zeros =
    let count : length (take (length now - k) (drop k now)) ≡ length now - k = length-take-le (length now - k) (drop k now) (omega (arith, length-drop k now)) in
    let end : post_of k (length now - k) now ≡ [] = drop_all (length now - k) (drop k now) (omega (arith, length-drop k now)) in
    let whole : take k now ++ (part ++ post_of k (length now - k) now) ≡ replicate len 0 = rw (filled, count, end, append-nil, same, long) (all_zeros cells k zeros) in
    ap (λ (xs : List ℕ). take len (xs ++ drop (length xs) cells)) whole ∙ take_at (replicate len 0) (drop (length (replicate len 0)) cells) len (length-replicate len 0)

pub take_zeros : (k len : ℕ) → k ≡ len → take {A = ℕ} k (replicate len 0) ≡ replicate k 0
take_zeros k len same = rw same (take_all len (replicate len 0) (omega (arith, length-replicate {A = ℕ} len 0)))
