-- What stands at a place of a list that was changed at one place.
use Rattle.std.proofs.Common.{◌≡◌, ◌∙◌, ℕ, zero, suc, ◌<◌, List, [], ◌∷◌, length, Bool, true, false, Some, slice_get, slice_set, slice_index_or, refl, ap, arith}
use Rattle.std.specs.Prelude.{if◌then◌else◌, ◌==◌}
use Rattle.std.proofs.lemmas.Bool.Decides.{nat_tests}

pub same_number : (a b : ℕ) → (a == b) ≡ true → a ≡ b
same_number a b e = grind (arith, nat_tests)

pub other_number : (a b : ℕ) → (a == b) ≡ false → a ≡ b → ⊥
other_number a b e p = absurd (grind (arith, nat_tests))

pub equal : (a b : ℕ) → a ≡ b → (a == b) ≡ true
equal a b e = grind (arith, nat_tests)

pub differ : (a b : ℕ) → (a ≡ b → ⊥) → (a == b) ≡ false
differ a b e = grind (arith, nat_tests)

pub get_same : {X : Type 0} (xs : List X) (k : ℕ) (x : X) → k < length xs → slice_get (slice_set xs k x) k ≡ Some x
get_same [] k x l = absurd (omega arith)
get_same (y ∷ xs) zero x l = refl
get_same (y ∷ xs) (suc k) x l = get_same xs k x (omega arith)

pub get_other : {X : Type 0} (xs : List X) (k j : ℕ) (x : X) → (j ≡ k → ⊥) → slice_get (slice_set xs k x) j ≡ slice_get xs j
get_other [] k j x h = refl
get_other (y ∷ xs) zero zero x h = absurd (h refl)
get_other (y ∷ xs) zero (suc j) x h = refl
get_other (y ∷ xs) (suc k) zero x h = refl
get_other (y ∷ xs) (suc k) (suc j) x h = get_other xs k j x (λ e. h (ap suc e))

pub get_set : {X : Type 0} (xs : List X) (k j : ℕ) (x : X) → k < length xs → slice_get (slice_set xs k x) j ≡ (if j == k then Some x else slice_get xs j)
get_set xs k j x l = by (j == k) refl
  where
    by : (b : Bool) → (j == k) ≡ b → slice_get (slice_set xs k x) j ≡ (if b then Some x else slice_get xs j)
    by true e = ap (slice_get (slice_set xs k x)) (same_number j k e) ∙ get_same xs k x l
    by false e = get_other xs k j x (other_number j k e)

pub index_set : {X : Type 0} (xs : List X) (k j : ℕ) (x d : X) → k < length xs → slice_index_or (slice_set xs k x) j d ≡ (if j == k then x else slice_index_or xs j d)
index_set [] k j x d l = absurd (omega arith)
index_set (y ∷ xs) k j x d l = by (j == k) refl
  where
    same : {Y : Type 0} (ys : List Y) (n : ℕ) (v e : Y) → n < length ys → slice_index_or (slice_set ys n v) n e ≡ v
    same [] n v e l = absurd (omega arith)
    same (z ∷ ys) zero v e l = refl
    same (z ∷ ys) (suc n) v e l = same ys n v e (omega arith)

    other : {Y : Type 0} (ys : List Y) (n m : ℕ) (v e : Y) → (m ≡ n → ⊥) → slice_index_or (slice_set ys n v) m e ≡ slice_index_or ys m e
    other [] n m v e h = refl
    other (z ∷ ys) zero zero v e h = absurd (h refl)
    other (z ∷ ys) zero (suc m) v e h = refl
    other (z ∷ ys) (suc n) zero v e h = refl
    other (z ∷ ys) (suc n) (suc m) v e h = other ys n m v e (λ q. h (ap suc q))

    by : (b : Bool) → (j == k) ≡ b → slice_index_or (slice_set (y ∷ xs) k x) j d ≡ (if b then x else slice_index_or (y ∷ xs) j d)
    by true e = ap (λ (n : ℕ). slice_index_or (slice_set (y ∷ xs) k x) n d) (same_number j k e) ∙ same (y ∷ xs) k x d l
    by false e = other (y ∷ xs) k j x d (other_number j k e)
