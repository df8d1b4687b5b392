-- Each source is one of all exactly once, or none of them.
use Rattle.std.proofs.Common.{◌≡◌, ◌∙◌, ◌⊎◌, inl, inr, ℕ, zero, suc, ◌+◌, ◌<◌, ◌≤◌, List, [], ◌∷◌, ◌++◌, map, true, false, refl, ap, sym, subst, arith}
use Rattle.std.specs.Prelude.{◌==◌, Contains}
use Rattle.std.specs.List.{AllByRecursion}
use Rattle.std.proofs.lemmas.Bool.{cases_lt}
use Rattle.std.proofs.lemmas.Bool.Decides.{nat_tests}
use Rattle.join_base.specs.declared.message.Source.{Source}
use Rattle.join_base.specs.declared.message.Source.TheVariants.{Feed, Actor}
use Rattle.fair_semantics.specs.Linked.{numbers_from, same_source, sources}
use Rattle.fair_semantics.proofs.ListLemmas.{each_append}
use Rattle.run_order_law.proofs.EventLemmas.{same_source_is}

abbrev pub NoneOf : Source → List Source → Type 0
NoneOf source sources = AllByRecursion (λ s. same_source s source ≡ false) sources

abbrev pub OneOf : Source → List Source → Type 0
OneOf source [] = ⊥
OneOf source (s ∷ sources) = ((same_source s source ≡ true) × NoneOf source sources) ⊎ ((same_source s source ≡ false) × OneOf source sources)

one_left : (source : Source) (xs ys : List Source) → OneOf source xs → NoneOf source ys → OneOf source (xs ++ ys)
one_left source [] ys one none = absurd one
one_left source (x ∷ xs) ys (inl h) none = inl (h.0, each_append (λ s. same_source s source ≡ false) xs ys h.1 none)
one_left source (x ∷ xs) ys (inr h) none = inr (h.0, one_left source xs ys h.1 none)

one_right : (source : Source) (xs ys : List Source) → NoneOf source xs → OneOf source ys → OneOf source (xs ++ ys)
one_right source [] ys none one = one
one_right source (x ∷ xs) ys none one = inr (none.0, one_right source xs ys none.1 one)

module _ (source : Source) (make : ℕ → Source) where
  none_made : (start n : ℕ) → ((k : ℕ) → start ≤ k → k < start + n → same_source (make k) source ≡ false) → NoneOf source (map make (numbers_from start n))
  none_made start zero other = tt
  none_made start (suc n) other = (other start (omega arith) (omega arith), none_made (start + 1) n (λ k l m. other k (omega arith) (omega arith)))

  one_made : (k : ℕ) → same_source (make k) source ≡ true → ((j : ℕ) → (j < k) ⊎ (k < j) → same_source (make j) source ≡ false) → (start n : ℕ) → start ≤ k → k < start + n → OneOf source (map make (numbers_from start n))
  one_made k same other start zero l m = absurd (omega arith)
  one_made k same other start (suc n) l m =
      elim (cases_lt start k) [
        | inl less ↦ inr (other start (inl less), one_made k same other (start + 1) n (omega arith) (omega arith))
        | inr more ↦ let here : k ≡ start = omega arith in inl (subst (λ (j : ℕ). same_source (make j) source ≡ true) here same, none_made (start + 1) n (λ j a b. other j (inr (omega arith))))
      ]

pub is_itself : (k : ℕ) → (k == k) ≡ true
is_itself k = grind (arith, nat_tests)

pub not_equal : (j k : ℕ) → (j < k) ⊎ (k < j) → (j == k) ≡ false
not_equal j k (inl l) = grind (arith, nat_tests)
not_equal j k (inr l) = grind (arith, nat_tests)

pub feed_among : (feeds actors k : ℕ) → 1 ≤ k → k ≤ feeds → OneOf (Feed k) (sources feeds actors)
feed_among feeds actors k l m =
    one_left (Feed k) (map (λ j. Feed j) (numbers_from 1 feeds)) (map (λ a. Actor a) (numbers_from 0 actors)) (one_made (Feed k) (λ j. Feed j) k (is_itself k) (λ j o. not_equal j k o) 1 feeds l (omega arith))
    (none_made (Feed k) (λ a. Actor a) 0 actors (λ j a b. refl))

pub actor_among : (feeds actors a : ℕ) → a < actors → OneOf (Actor a) (sources feeds actors)
actor_among feeds actors a l =
    one_right (Actor a) (map (λ j. Feed j) (numbers_from 1 feeds)) (map (λ b. Actor b) (numbers_from 0 actors)) (none_made (Actor a) (λ j. Feed j) 1 feeds (λ j b c. refl))
    (one_made (Actor a) (λ b. Actor b) a (is_itself a) (λ j o. not_equal j a o) 0 actors (omega arith) (omega arith))

pub contains_one : (source : Source) (xs : List Source) → OneOf source xs → Contains xs source
contains_one source [] one = absurd one
contains_one source (x ∷ xs) (inl h) = (0, omega arith, same_source_is x source h.0)
contains_one source (x ∷ xs) (inr h) = let r = contains_one source xs h.1 in (suc r.0, omega (arith, r.1), r.2)

pub itself : (source : Source) → same_source source source ≡ true
itself (Feed k) = is_itself k
itself (Actor a) = is_itself a

one_contains : (source : Source) (xs : List Source) → OneOf source xs ⊎ NoneOf source xs → Contains xs source → OneOf source xs
one_contains source xs (inl one) c = one
one_contains source xs (inr none) c = absurd (away xs none c)
  where
    away : (ys : List Source) → NoneOf source ys → Contains ys source → ⊥
    away [] none (k, l, e) = omega arith
    away (y ∷ ys) none (zero, l, e) = let same : true ≡ false = sym (itself source) ∙ ap (λ (s : Source). same_source s source) (sym e) ∙ none.0 in cc
    away (y ∷ ys) none (suc k, l, e) = away ys none.1 (k, omega arith, e)

pub one_or_none : (feeds actors : ℕ) (source : Source) → OneOf source (sources feeds actors) ⊎ NoneOf source (sources feeds actors)
one_or_none feeds actors (Feed k) =
    elim (cases_lt 0 k) [
      | inl least ↦ elim (cases_lt feeds k) [
        | inl past ↦ inr (each_append (λ s. same_source s (Feed k) ≡ false) (map (λ j. Feed j) (numbers_from 1 feeds)) (map (λ a. Actor a) (numbers_from 0 actors))
            (none_made (Feed k) (λ j. Feed j) 1 feeds (λ j a b. not_equal j k (inl (omega arith)))) (none_made (Feed k) (λ a. Actor a) 0 actors (λ j a b. refl)))
        | inr within ↦ inl (feed_among feeds actors k (omega arith) within)
      ]
      | inr below ↦ inr (each_append (λ s. same_source s (Feed k) ≡ false) (map (λ j. Feed j) (numbers_from 1 feeds)) (map (λ a. Actor a) (numbers_from 0 actors))
          (none_made (Feed k) (λ j. Feed j) 1 feeds (λ j a b. not_equal j k (inr (omega arith)))) (none_made (Feed k) (λ a. Actor a) 0 actors (λ j a b. refl)))
    ]
one_or_none feeds actors (Actor a) =
    elim (cases_lt a actors) [
      | inl within ↦ inl (actor_among feeds actors a within)
      | inr past ↦ inr (each_append (λ s. same_source s (Actor a) ≡ false) (map (λ j. Feed j) (numbers_from 1 feeds)) (map (λ b. Actor b) (numbers_from 0 actors))
          (none_made (Actor a) (λ j. Feed j) 1 feeds (λ j b c. refl)) (none_made (Actor a) (λ b. Actor b) 0 actors (λ j b c. not_equal j a (inl (omega arith)))))
    ]

pub among_contained : (feeds actors : ℕ) (source : Source) → Contains (sources feeds actors) source → OneOf source (sources feeds actors)
among_contained feeds actors source c = one_contains source (sources feeds actors) (one_or_none feeds actors source) c
