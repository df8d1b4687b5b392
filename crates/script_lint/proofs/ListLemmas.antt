-- Members of lists, and tests of them.
use Rattle.std.proofs.Common.{◌≡◌, ◌⊎◌, inl, inr, ℕ, zero, suc, List, [], ◌∷◌, Bool, true, false, ◌&&◌, ◌||◌, slice_get, refl, ap, sym, ◌∙◌}
use Rattle.std.specs.Prelude.{IfSome}
use Rattle.std.specs.List.{AllByRecursion, list_all, list_any}
use Rattle.guard_eval.proofs.ExtendLemmas.{both_true}
use Rattle.pattern_core.specs.Members.{IsIn}

pub or_cases : (a b : Bool) → (a || b) ≡ true → (a ≡ true) ⊎ (b ≡ true)
or_cases true b e = inl refl
or_cases false b e = inr e

pub or_false : (a : Bool) → (a || false) ≡ a
or_false true = refl
or_false false = refl

pub any_in : {X : Type 0} (p : X → Bool) (xs : List X) → list_any p xs ≡ true → (x : X) × IsIn x xs × (p x ≡ true)
any_in p [] h = absurd cc
any_in p (x ∷ xs) h =
    elim (or_cases (p x) (list_any p xs) h) [
      | inl e ↦ (x, inl refl, e)
      | inr e ↦ let later = any_in p xs e in (later.0, inr later.1, later.2)
    ]

pub all_at : {X : Type 0} (p : X → Bool) (xs : List X) (x : X) → IsIn x xs → list_all p xs ≡ true → p x ≡ true
all_at p [] x m h = absurd m
all_at p (y ∷ xs) x (inl e) h = sym (ap p e) ∙ (both_true (p y) (list_all p xs) h).0
all_at p (y ∷ xs) x (inr m) h = all_at p xs x m (both_true (p y) (list_all p xs) h).1

pub all_from : {X : Type 0} (p q : X → Bool) → ((x : X) → p x ≡ true → q x ≡ true) → (xs : List X) → list_all p xs ≡ true → list_all q xs ≡ true
all_from p q f [] h = refl
all_from p q f (x ∷ xs) h =
    let parts = both_true (p x) (list_all p xs) h in
    let here = f x parts.0 in
    let later = all_from p q f xs parts.1 in
    λ i. here i && later i

pub some_at : {X : Type 0} (P : X → Type 0) (xs : List X) (i : ℕ) → AllByRecursion P xs → IfSome (slice_get xs i) P
some_at P [] i h = tt
some_at P (x ∷ xs) zero h = h.0
some_at P (x ∷ xs) (suc i) h = some_at P xs i h.1
