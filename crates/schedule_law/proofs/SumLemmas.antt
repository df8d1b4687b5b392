-- Sums over lists and over numbers one after the other.
use Rattle.std.proofs.Common.{◌≡◌, ◌∙◌, inr, ℕ, zero, suc, ◌+◌, ◌<◌, ◌≤◌, List, [], ◌∷◌, map, Bool, true, false, refl, ap, sym, subst, arith}
use Rattle.std.specs.Prelude.{if◌then◌else◌, ◌==◌, Contains}
use Rattle.std.specs.List.{sum_by}
use Rattle.std.proofs.lemmas.List.Sums.{sum_by-cons}
use Rattle.fair_semantics.specs.Linked.{numbers_from}
use Rattle.run_order_law.proofs.EventLemmas.{same_number}
use Rattle.run_order_law.proofs.SourceLemmas.{not_equal}

module _ {X : Type 0} where
  pub sum_same : (f g : X → ℕ) → ((x : X) → f x ≡ g x) → (xs : List X) → sum_by f xs ≡ sum_by g xs
  sum_same f g h [] = refl
  sum_same f g h (x ∷ xs) = let later = sum_same f g h xs in sum_by-cons f x xs ∙ (λ i. h x i + later i) ∙ sym (sum_by-cons g x xs)

  pub sum_both : (f g : X → ℕ) (xs : List X) → sum_by (λ x. f x + g x) xs ≡ sum_by f xs + sum_by g xs
  sum_both f g [] = refl
  sum_both f g (x ∷ xs) =
      let later = sum_both f g xs in
      let a = sum_by-cons (λ y. f y + g y) x xs in
      let b = sum_by-cons f x xs in
      let c = sum_by-cons g x xs in
      omega (arith, later, a, b, c)

  pub sum_none : (f : X → ℕ) → ((x : X) → f x ≡ 0) → (xs : List X) → sum_by f xs ≡ 0
  sum_none f h [] = refl
  sum_none f h (x ∷ xs) = let later = sum_none f h xs in sum_by-cons f x xs ∙ (λ i. h x i + later i)

  pub sum_most : (f g : X → ℕ) → ((x : X) → f x ≤ g x) → (xs : List X) → sum_by f xs ≤ sum_by g xs
  sum_most f g h [] = omega arith
  sum_most f g h (x ∷ xs) =
      let here = h x in
      let later = sum_most f g h xs in
      let a = sum_by-cons f x xs in
      let b = sum_by-cons g x xs in
      omega (arith, here, later, a, b)

  -- where no item has more and one of them has this much less, the sum has
  pub sum_less : (f g : X → ℕ) (less : ℕ) → ((x : X) → f x ≤ g x) → (xs : List X) (x : X) → Contains xs x → f x + less ≤ g x → sum_by f xs + less ≤ sum_by g xs
  sum_less f g less h [] x (k, l, e) here = absurd (omega (arith, l))
  sum_less f g less h (y ∷ xs) x (zero, l, e) here =
      let mine : f y + less ≤ g y = subst (λ (z : X). f z + less ≤ g z) (sym e) here in
      let later = sum_most f g h xs in
      let a = sum_by-cons f y xs in
      let b = sum_by-cons g y xs in
      omega (arith, mine, later, a, b)
  sum_less f g less h (y ∷ xs) x (suc k, l, e) here =
      let first = h y in
      let later = sum_less f g less h xs x (k, omega (arith, l), e) here in
      let a = sum_by-cons f y xs in
      let b = sum_by-cons g y xs in
      omega (arith, first, later, a, b)

pub sum_map : {X Y : Type 0} (f : Y → ℕ) (g : X → Y) (xs : List X) → sum_by f (map g xs) ≡ sum_by (λ x. f (g x)) xs
sum_map f g [] = refl
sum_map f g (x ∷ xs) = let later = sum_map f g xs in sum_by-cons f (g x) (map g xs) ∙ ap (λ (n : ℕ). f (g x) + n) later ∙ sym (sum_by-cons (λ y. f (g y)) x xs)

-- ---- over numbers one after the other, a number occurs once at the most

abbrev where_is : ℕ → ℕ → ℕ → ℕ
where_is k n a = if a == k then n else 0

none_before : (start count k n : ℕ) → k < start → sum_by (where_is k n) (numbers_from start count) ≡ 0
none_before start zero k n l = refl
none_before start (suc count) k n l =
    let other : (start == k) ≡ false = not_equal start k (inr l) in
    let later = none_before (start + 1) count k n (omega (arith, l)) in
    sum_by-cons (where_is k n) start (numbers_from (start + 1) count) ∙ (λ i. (if other i then n else 0) + later i)

pub once : (start count k n : ℕ) → sum_by (λ a. if a == k then n else 0) (numbers_from start count) ≤ n
once start zero k n = omega arith
once start (suc count) k n = by (start == k) refl (once (start + 1) count k n)
  where
    cons : sum_by (where_is k n) (numbers_from start (suc count)) ≡ where_is k n start + sum_by (where_is k n) (numbers_from (start + 1) count)
    cons = sum_by-cons (where_is k n) start (numbers_from (start + 1) count)

    by : (b : Bool) → (start == k) ≡ b → sum_by (where_is k n) (numbers_from (start + 1) count) ≤ n → sum_by (where_is k n) (numbers_from start (suc count)) ≤ n
    by false e later = let here : where_is k n start ≡ 0 = ap (λ (b : Bool). if b then n else 0) e in omega (arith, cons, here, later)
    by true e later =
        let here : where_is k n start ≡ n = ap (λ (b : Bool). if b then n else 0) e in
        let same : start ≡ k = same_number start k e in
        let none = none_before (start + 1) count k n (omega (arith, same)) in
        omega (arith, cons, here, none)
