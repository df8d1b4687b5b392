-- Numbers one after the other, the sources that are made of them, and lists place by place.
use Rattle.std.proofs.Common.{◌≡◌, ◌∙◌, ◌⊎◌, inl, inr, ℕ, zero, suc, ◌+◌, ◌<◌, ◌≤◌, List, [], ◌∷◌, ◌++◌, length, map, take, Some, slice_get, replicate, refl, ap, subst, arith}
use Rattle.std.specs.Prelude.{slice_index, Contains}
use Rattle.join_base.specs.declared.message.Source.{Source}
use Rattle.join_base.specs.declared.message.Source.TheVariants.{Feed, Actor}
use Rattle.fair_semantics.specs.Linked.{numbers_from, sources}
use Rattle.fair_semantics.proofs.CountedLemmas.{Among}

pub count_numbers : (begin n : ℕ) → length (numbers_from begin n) ≡ n
count_numbers begin zero = refl
count_numbers begin (suc n) = ap suc (count_numbers (begin + 1) n)

pub get_numbers : {X : Type 0} (f : ℕ → X) (start n k : ℕ) → k < n → slice_get (map f (numbers_from start n)) k ≡ Some (f (start + k))
get_numbers f start zero k l = absurd (omega arith)
get_numbers f start (suc n) zero l = let e : start ≡ start + 0 = omega arith in ap (λ (i : ℕ). Some (f i)) e
get_numbers f start (suc n) (suc k) l = let e : start + 1 + k ≡ start + suc k = omega arith in get_numbers f (start + 1) n k (omega arith) ∙ ap (λ (i : ℕ). Some (f i)) e

pub equal_at : (xs ys : List ℕ) → length xs ≡ length ys → ((k : ℕ) → k < length xs → slice_index xs k ≡ slice_index ys k) → xs ≡ ys
equal_at [] [] e h = refl
equal_at [] (y ∷ ys) e h = absurd (omega arith)
equal_at (x ∷ xs) [] e h = absurd (omega arith)
equal_at (x ∷ xs) (y ∷ ys) e h = λ i. h 0 (omega arith) i ∷ equal_at xs ys (omega arith) (λ k l. h (suc k) (omega arith)) i

pub zero_at : (n k : ℕ) → k < n → slice_index (replicate n 0) k ≡ 0
zero_at zero k l = absurd (omega arith)
zero_at (suc n) zero l = refl
zero_at (suc n) (suc k) l = zero_at n k (omega arith)

pub first_of : {X : Type 0} (xs ys : List X) → xs ≡ take (length xs) (xs ++ ys)
first_of [] ys = refl
first_of {X} (x ∷ xs) ys = ap (λ (zs : List X). x ∷ zs) (first_of xs ys)

-- ---- sources

contains_cases : {X : Type 0} (xs ys : List X) (x : X) → Contains (xs ++ ys) x → Contains xs x ⊎ Contains ys x
contains_cases [] ys x c = inr c
contains_cases (y ∷ xs) ys x (zero, l, e) = inl (zero, omega arith, e)
contains_cases (y ∷ xs) ys x (suc k, l, e) = elim (contains_cases xs ys x (k, omega (arith, l), e)) [
  | inl c ↦ inl (suc c.0, omega (arith, c.1), c.2)
  | inr c ↦ inr c
]

number_from : {X : Type 0} (f : ℕ → X) (start n : ℕ) (x : X) → Contains (map f (numbers_from start n)) x → (j : ℕ) × (start ≤ j) × (j < start + n) × (f j ≡ x)
number_from f start zero x (k, l, e) = absurd (omega arith)
number_from f start (suc n) x (zero, l, e) = (start, omega arith, omega arith, e)
number_from f start (suc n) x (suc k, l, e) = let r = number_from f (start + 1) n x (k, omega (arith, l), e) in (r.0, omega (arith, r.1), omega (arith, r.2), r.3)

pub among_sources : (feeds actors : ℕ) (source : Source) → Contains (sources feeds actors) source → Among feeds actors source
among_sources feeds actors source c =
    elim (contains_cases (map (λ k. Feed k) (numbers_from 1 feeds)) (map (λ a. Actor a) (numbers_from 0 actors)) source c) [
      | inl f ↦ let r = number_from (λ k. Feed k) 1 feeds source f in subst (Among feeds actors) r.3 (omega (arith, r.1), omega (arith, r.2))
      | inr a ↦ let r = number_from (λ b. Actor b) 0 actors source a in let small : r.0 < actors = omega (arith, r.2) in subst (Among feeds actors) r.3 small
    ]
