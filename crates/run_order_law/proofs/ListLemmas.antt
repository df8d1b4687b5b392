-- Lists: what holds of each item, what stands at a place, and what two lists together are.
use Rattle.std.proofs.Common.{◌≡◌, ◌⊎◌, inl, inr, ℕ, zero, suc, ◌<◌, List, [], ◌∷◌, ◌++◌, length, get_or, Option, None, Some, slice_get, length-append, refl, ap, subst, arith}
use Rattle.std.specs.List.{AllByRecursion}
use Rattle.pattern_core.specs.Members.{IsIn}
pub use Rattle.fair_semantics.proofs.ListLemmas.{each_in}
use Rattle.fair_semantics.proofs.StampLemmas.{found_in}

pub in_each : {X : Type 0} (P : X → Type 0) (xs : List X) → ((x : X) → IsIn x xs → P x) → AllByRecursion P xs
in_each P [] h = tt
in_each P (x ∷ xs) h = (h x (inl refl), in_each P xs (λ y i. h y (inr i)))

-- an item of two lists at a place is in the first, or among the second
pub get_front : {X : Type 0} (xs ys : List X) (k : ℕ) (x : X) → slice_get (xs ++ ys) k ≡ Some x → (slice_get xs k ≡ Some x) ⊎ IsIn x ys
get_front [] ys k x e = inr (found_in ys k x e)
get_front (y ∷ xs) ys zero x e = inl e
get_front (y ∷ xs) ys (suc k) x e = get_front xs ys k x e

pub nothing_here : {X : Type 0} (xs : List X) (y : X) (ys : List X) → [] ≡ xs ++ y ∷ ys → ⊥
nothing_here xs y ys e = let n : 0 ≡ length (xs ++ y ∷ ys) = ap length e in omega (arith, length-append xs (y ∷ ys))

pub at_front : {X : Type 0} (front : List X) (x : X) (xs : List X) → slice_get (front ++ x ∷ xs) (length front) ≡ Some x
at_front [] x xs = refl
at_front (f ∷ front) x xs = at_front front x xs

pub nothing_more : {X : Type 0} (xs : List X) (y : X) (ys : List X) → xs ≡ xs ++ y ∷ ys → ⊥
nothing_more xs y ys e = let n : length xs ≡ length (xs ++ y ∷ ys) = ap length e in let m = length-append xs (y ∷ ys) in omega arith

pub none_behind : {X : Type 0} (xs ys : List X) → xs ++ ys ≡ xs → ys ≡ []
none_behind xs [] e = refl
none_behind xs (y ∷ ys) e = let n : length (xs ++ y ∷ ys) ≡ length xs = ap length e in absurd (omega (arith, length-append xs (y ∷ ys)))

pub empty_right : {X : Type 0} (xs ys : List X) → xs ++ ys ≡ [] → ys ≡ []
empty_right [] ys e = e
empty_right (x ∷ xs) ys e = absurd cc

pub at_place : {X : Type 0} (P : X → Type 0) (xs : List X) → AllByRecursion P xs → (k : ℕ) (d : X) → k < length xs → P (get_or xs k d)
at_place P [] h k d l = absurd (omega arith)
at_place P (x ∷ xs) h zero d l = h.0
at_place P (x ∷ xs) h (suc k) d l = at_place P xs h.1 k d (omega arith)

abbrev pub IsThere : {X : Type 0} → Option X → Type 0
IsThere None = ⊥
IsThere (Some x) = Unit {0}

pub there : {X : Type 0} (xs : List X) (k : ℕ) → k < length xs → IsThere (slice_get xs k)
there [] k l = absurd (omega arith)
there (x ∷ xs) zero l = tt
there (x ∷ xs) (suc k) l = there xs k (omega arith)
