-- Sets of places, bit by bit.
use Rattle.std.proofs.Common.{◌≡◌, ◌∙◌, inl, inr, ℕ, zero, suc, ◌-◌, ◌*◌, ◌%◌, ◌^◌, ◌<◌, min, Bool, true, false, not, ◌&&◌, ◌||◌, refl, sym, ap, arith, w64}
use Rattle.std.specs.Prelude.{◌==◌, bit_and, bit_or}
use Rattle.std.specs.Int.{bit_at, bit_not, trailing_zeros}
use Rattle.std.proofs.lemmas.Bool.{cases_eq}
use Rattle.std.proofs.lemmas.Bool.Decides.{nat_tests}
use Rattle.std.proofs.lemmas.Nat.{and_le_l}
use Rattle.std.proofs.lemmas.Nat.Bits.{bit_at-lt, bit_at-zero, bit_at_and, bit_at_not, bit_at_ones, bit_at_set_same, bit_at_set_other, bit_at_clear_same, bit_at_clear_other, bit_at-trailing_zeros}

one_test : (a : ℕ) → a ≡ 1 → (a == 1) ≡ true
one_test a is = grind (arith, nat_tests)

one_test_back : (a : ℕ) → (a == 1) ≡ true → a ≡ 1
one_test_back a is = grind (arith, nat_tests)

same_test : (a b : ℕ) → a ≡ b → (a == b) ≡ true
same_test a b is = grind (arith, nat_tests)

other_test : (a b : ℕ) → (a ≡ b → ⊥) → (a == b) ≡ false
other_test a b is = grind (arith, nat_tests)

and_true : (b : Bool) → b ≡ (b && true)
and_true true = refl
and_true false = refl

and_false : (b : Bool) → false ≡ (b && false)
and_false true = refl
and_false false = refl

-- ---- one set

pub none_has : (k : ℕ) → (bit_at 0 k == 1) ≡ false
none_has k = ap (λ (b : ℕ). b == 1) (bit_at-zero k)

pub all_has : (k : ℕ) → k < 64 → (bit_at (2 ^ 64 - 1) k == 1) ≡ true
all_has k small = one_test (bit_at (2 ^ 64 - 1) k) (bit_at_ones 64 k small)

pub bit_more : (n place k : ℕ) → place < 64 → (bit_at (bit_or n (1 * 2 ^ place % 2 ^ 64)) k == 1) ≡ ((k == place) || (bit_at n k == 1))
bit_more n place k within = elim (cases_eq k place) [
  | inl same ↦
      let set : bit_at (bit_or n (1 * 2 ^ place % 2 ^ 64)) k ≡ 1 = ap (bit_at (bit_or n (1 * 2 ^ place % 2 ^ 64))) same ∙ bit_at_set_same w64 n place within in
      one_test (bit_at (bit_or n (1 * 2 ^ place % 2 ^ 64)) k) set ∙ sym (λ i. same_test k place same i || (bit_at n k == 1))
  | inr other ↦ ap (λ (b : ℕ). b == 1) (bit_at_set_other w64 n place within k other) ∙ sym (λ i. other_test k place other i || (bit_at n k == 1))
]

pub bit_but : (n place k : ℕ) → place < 64 → k < 64 → (bit_at (bit_and n (bit_not w64 (1 * 2 ^ place % 2 ^ 64))) k == 1) ≡ ((bit_at n k == 1) && not (k == place))
bit_but n place k within small = elim (cases_eq k place) [
  | inl same ↦
      let left : ℕ = bit_and n (bit_not w64 (1 * 2 ^ place % 2 ^ 64)) in
      let gone : bit_at left k ≡ 0 = ap (bit_at left) same ∙ bit_at_clear_same w64 n place within in
      ap (λ (b : ℕ). b == 1) gone ∙ and_false (bit_at n k == 1) ∙ sym (λ i. (bit_at n k == 1) && not (same_test k place same i))
  | inr other ↦
      ap (λ (b : ℕ). b == 1) (bit_at_clear_other w64 n place within k small other) ∙ and_true (bit_at n k == 1) ∙ sym (λ i. (bit_at n k == 1) && not (other_test k place other i))
]

-- without one of its bits a number is less
pub bit_fewer : (n place : ℕ) → place < 64 → (bit_at n place == 1) ≡ true → bit_and n (bit_not w64 (1 * 2 ^ place % 2 ^ 64)) < n
bit_fewer n place within member =
    let left : ℕ = bit_and n (bit_not w64 (1 * 2 ^ place % 2 ^ 64)) in
    let gone : bit_at left place ≡ 0 = bit_at_clear_same w64 n place within in
    let set : bit_at n place ≡ 1 = one_test_back (bit_at n place) member in
    elim (cases_eq left n) [
      | inl same ↦ absurd (let both : bit_at left place ≡ bit_at n place = ap (λ x. bit_at x place) same in omega arith)
      | inr other ↦ omega (arith, and_le_l n (bit_not w64 (1 * 2 ^ place % 2 ^ 64)))
    ]

pub bit_first : (n : ℕ) → 0 < n → n < 2 ^ 64 → (trailing_zeros w64 n < 64) × ((bit_at n (trailing_zeros w64 n) == 1) ≡ true)
bit_first n some small =
    let lowest = bit_at-trailing_zeros w64 n some small in
    (lowest.0, one_test (bit_at n (trailing_zeros w64 n)) lowest.1)

-- ---- two sets

both_ones : (a b : ℕ) → a < 2 → b < 2 → (min a b == 1) ≡ ((a == 1) && (b == 1))
both_ones zero zero l m = refl
both_ones zero (suc zero) l m = refl
both_ones (suc zero) zero l m = refl
both_ones (suc zero) (suc zero) l m = refl
both_ones zero (suc (suc b)) l m = absurd (omega arith)
both_ones (suc zero) (suc (suc b)) l m = absurd (omega arith)
both_ones (suc (suc a)) b l m = absurd (omega arith)

other_one : (a b : ℕ) → a < 2 → b < 2 → (min a (1 - b) == 1) ≡ ((a == 1) && not (b == 1))
other_one zero zero l m = refl
other_one zero (suc zero) l m = refl
other_one (suc zero) zero l m = refl
other_one (suc zero) (suc zero) l m = refl
other_one zero (suc (suc b)) l m = absurd (omega arith)
other_one (suc zero) (suc (suc b)) l m = absurd (omega arith)
other_one (suc (suc a)) b l m = absurd (omega arith)

pub bit_both : (a b k : ℕ) → (bit_at (bit_and a b) k == 1) ≡ ((bit_at a k == 1) && (bit_at b k == 1))
bit_both a b k = ap (λ (x : ℕ). x == 1) (bit_at_and a b k) ∙ both_ones (bit_at a k) (bit_at b k) (bit_at-lt a k) (bit_at-lt b k)

pub bit_without : (a b k : ℕ) → b < 2 ^ 64 → k < 64 → (bit_at (bit_and a (bit_not w64 b)) k == 1) ≡ ((bit_at a k == 1) && not (bit_at b k == 1))
bit_without a b k fits small =
    ap (λ (x : ℕ). x == 1) (bit_at_and a (bit_not w64 b) k)
    ∙ ap (λ (x : ℕ). min (bit_at a k) x == 1) (bit_at_not w64 b k fits small)
    ∙ other_one (bit_at a k) (bit_at b k) (bit_at-lt a k) (bit_at-lt b k)
