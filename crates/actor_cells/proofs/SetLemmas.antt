-- The digits of a number, one by one.
use Rattle.std.specs.Prelude.{◌≡◌, ℕ, zero, suc, ◌*◌, ◌/◌, ◌%◌, ◌^◌, ◌<◌, ◌≤◌, ◌==◌, not, Bool, true, false, List, length, get_or, nat_lt, set, bit_and, bit_or}
use Rattle.std.specs.Int.{bit_at, w32}
use Rattle.std.proofs.Common.{inl, inr, arith, refl, ◌∙◌, sym, ap}
use Rattle.std.proofs.lemmas.Bool.{cases_eq, eq-eqb, eqb-true, le-ltb, ne_eqb}
use Rattle.std.proofs.lemmas.List.{get_or-set_other, get_or-set_same, get_or_past, length-set, same_lists, set_past}
use Rattle.std.proofs.lemmas.Nat.{one_shl, pow_pos}
use Rattle.std.proofs.lemmas.Nat.Bits.{and_pow, bit_at-lt, bit_at-suc, bit_at_lowest, bit_at_set_other, bit_at_set_same}
use Rattle.actor_cells.specs.ActorSets.{digits_of, no_actors, number_of, number_of-digits}

pub length-digits : (width n : ℕ) → length (digits_of width n) ≡ width
unfolding digits_of
length-digits zero n = refl
length-digits (suc width) n = ap suc (length-digits width (n / 2))

pub get-digits : (width n k : ℕ) (d : Bool) → k < width → get_or (digits_of width n) k d ≡ (bit_at n k == 1)
unfolding digits_of
get-digits zero n k d within = absurd (omega (arith, within))
get-digits (suc width) n zero d within = ap (λ b. b == 1) (sym (bit_at_lowest n))
get-digits (suc width) n (suc k) d within = get-digits width (n / 2) k d (omega (arith, within)) ∙ ap (λ b. b == 1) (sym (bit_at-suc n k))

-- ---- one actor more

with-digit : (n k j : ℕ) (d : Bool) → k < 32 → j < 32 → get_or (digits_of 32 (bit_or n (1 * 2 ^ k % 2 ^ 32))) j d ≡ get_or (set (digits_of 32 n) k true) j d
with-digit n k j d here within =
    let count : length (digits_of 32 n) ≡ 32 = length-digits 32 n in
    let now = get-digits 32 (bit_or n (1 * 2 ^ k % 2 ^ 32)) j d within in
    elim (cases_eq j k) [
      | inl same ↦
          now ∙ ap (λ b. b == 1) (ap (bit_at (bit_or n (1 * 2 ^ k % 2 ^ 32))) same ∙ bit_at_set_same w32 n k here)
          ∙ sym (ap (λ i. get_or (set (digits_of 32 n) k true) i d) same ∙ get_or-set_same (digits_of 32 n) k true d (omega (arith, here, count)))
      | inr other ↦
          now ∙ ap (λ b. b == 1) (bit_at_set_other w32 n k here j other)
          ∙ sym (get_or-set_other (digits_of 32 n) k j true d other ∙ get-digits 32 n j d within)
    ]

pub digits-with : (n k : ℕ) → k < 32 → digits_of 32 (bit_or n (1 * 2 ^ k % 2 ^ 32)) ≡ set (digits_of 32 n) k true
digits-with n k here =
    let count = length-digits 32 (bit_or n (1 * 2 ^ k % 2 ^ 32)) in
    same_lists _ _ (count ∙ sym (length-set (digits_of 32 n) k true ∙ length-digits 32 n))
    (λ j d within. with-digit n k j d here (omega (arith, within, count)))

pub digits-past : (n k : ℕ) → 32 ≤ k → digits_of 32 n ≡ set (digits_of 32 n) k true
digits-past n k past =
    let count = length-digits 32 n in
    sym (set_past (digits_of 32 n) k true (omega (arith, past, count)))

-- ---- whether one is in

one-times : (n : ℕ) → suc 0 * n ≡ n
one-times n = omega arith

is-in : (n k b : ℕ) → b < 2 → 0 < 2 ^ k → n ≡ b * 2 ^ k → not (n == 0) ≡ (b == 1)
is-in n k zero below some is =
    let none : n ≡ 0 = omega (arith, is) in
    ap (λ m. not (m == 0)) none
is-in n k (suc b) below some is =
    let one : b ≡ 0 = omega (arith, below) in
    let power : n ≡ 2 ^ k = is ∙ ap (λ m. suc m * 2 ^ k) one ∙ one-times (2 ^ k) in
    ap (λ t. not t) (ne_eqb n 0 (λ e. omega (arith, e, power, some))) ∙ ap (λ m. suc m == 1) (sym one)

pub digits-in : (n k : ℕ) → k < 32 → not (bit_and n (1 * 2 ^ k % 2 ^ 32) == 0) ≡ get_or (digits_of 32 n) k false
digits-in n k here =
    is-in (bit_and n (1 * 2 ^ k % 2 ^ 32)) k (bit_at n k) (bit_at-lt n k) (pow_pos k) (ap (bit_and n) (one_shl k 32 here) ∙ and_pow n k)
    ∙ sym (get-digits 32 n k false here)

pub digits-out : (n k : ℕ) → 32 ≤ k → nat_lt k 32 ≡ get_or (digits_of 32 n) k false
digits-out n k past =
    let count = length-digits 32 n in
    le-ltb k 32 past ∙ sym (get_or_past (digits_of 32 n) k false (omega (arith, past, count)))

-- ---- the empty set

pub digits-none : digits_of 32 0 ≡ no_actors
unfolding digits_of
digits-none = refl

pub none-digits : (n : ℕ) → n < 2 ^ 32 → digits_of 32 n ≡ no_actors → n ≡ 0
unfolding number_of
none-digits n below none = sym (number_of-digits 32 n below) ∙ ap number_of none

pub empty-digits : (n : ℕ) (digits : List Bool) → n < 2 ^ 32 → digits_of 32 n ≡ digits → (n == 0 ≡ true → digits ≡ no_actors) × (digits ≡ no_actors → n == 0 ≡ true)
empty-digits n digits below seen = (
  λ zero. sym seen ∙ ap (digits_of 32) (eqb-true n 0 zero) ∙ digits-none,
  λ none. eq-eqb n 0 (none-digits n below (seen ∙ none)),
)
