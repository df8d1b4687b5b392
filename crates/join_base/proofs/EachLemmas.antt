-- A fact that holds of each item of a list.
use Rattle.std.proofs.Common.{◌≡◌, ◌∙◌, ℕ, zero, suc, ◌+◌, ◌<◌, ◌≤◌, Bool, true, false, cond, List, [], ◌∷◌, ◌++◌, take, drop, get_or, length, slice_get, map, replicate, Some, refl, sym, subst, arith}
use Rattle.std.specs.Prelude.{All}
use Rattle.std.specs.List.{AllByRecursion, filter}
use Rattle.std.proofs.lemmas.List.{take_more, take_all}

-- a fact that follows from another for each item
pub each_from : {X : Type 0} (P Q : X → Type 0) → ((x : X) → P x → Q x) → (xs : List X) → AllByRecursion P xs → AllByRecursion Q xs
each_from P Q h [] a = tt
each_from P Q h (x ∷ xs) a = (h x a.0, each_from P Q h xs a.1)

-- from a fact of the item at each place
pub each_from_All : {X : Type 0} (P : X → Type 0) (xs : List X) → All P xs → AllByRecursion P xs
each_from_All P [] h = tt
each_from_All P (x ∷ xs) h = (h 0 x (omega arith), each_from_All P xs (λ k d l. h (suc k) d (omega arith)))

pub each_from_get : {X : Type 0} (P : X → Type 0) (xs : List X) → ((k : ℕ) (x : X) → slice_get xs k ≡ Some x → P x) → AllByRecursion P xs
each_from_get P [] h = tt
each_from_get P (x ∷ xs) h = (h 0 x refl, each_from_get P xs (λ k y e. h (suc k) y e))

-- of the item at a place
pub each_at : {X : Type 0} (P : X → Type 0) (xs : List X) (i : ℕ) (x : X) → slice_get xs i ≡ Some x → AllByRecursion P xs → P x
each_at P [] i x e h = absurd cc
each_at {X} P (y ∷ xs) zero x e h = let same : y ≡ x = cc in subst P same h.0
each_at P (y ∷ xs) (suc i) x e h = each_at P xs i x e h.1

-- ---- lists made of others

pub each_map : {X Y : Type 0} (P : X → Type 0) (Q : Y → Type 0) (f : X → Y) → ((x : X) → P x → Q (f x)) → (xs : List X) → AllByRecursion P xs → AllByRecursion Q (map f xs)
each_map P Q f h [] a = tt
each_map P Q f h (x ∷ xs) a = (h x a.0, each_map P Q f h xs a.1)

pub each_append : {X : Type 0} (P : X → Type 0) (xs ys : List X) → AllByRecursion P xs → AllByRecursion P ys → AllByRecursion P (xs ++ ys)
each_append P [] ys a b = b
each_append P (x ∷ xs) ys a b = (a.0, each_append P xs ys a.1 b)

pub each_left : {X : Type 0} (P : X → Type 0) (xs ys : List X) → AllByRecursion P (xs ++ ys) → AllByRecursion P xs
each_left P [] ys h = tt
each_left P (x ∷ xs) ys h = (h.0, each_left P xs ys h.1)

pub each_right : {X : Type 0} (P : X → Type 0) (xs ys : List X) → AllByRecursion P (xs ++ ys) → AllByRecursion P ys
each_right P [] ys h = h
each_right P (x ∷ xs) ys h = each_right P xs ys h.1

pub each_last : {X : Type 0} (P : X → Type 0) (xs : List X) (x : X) → AllByRecursion P xs → P x → AllByRecursion P (xs ++ x ∷ [])
each_last P [] x a h = (h, tt)
each_last P (y ∷ xs) x a h = (a.0, each_last P xs x a.1 h)

pub each_drop : {X : Type 0} (P : X → Type 0) (xs : List X) (i : ℕ) → AllByRecursion P xs → AllByRecursion P (drop i xs)
each_drop P xs zero h = h
each_drop P [] (suc i) h = h
each_drop P (x ∷ xs) (suc i) h = each_drop P xs i h.1

pub each_filter : {X : Type 0} (P : X → Type 0) (p : X → Bool) (xs : List X) → AllByRecursion P xs → AllByRecursion P (filter p xs)
each_filter P p [] h = tt
each_filter {X} P p (x ∷ xs) h = by (p x) (each_filter P p xs h.1)
  where
    by : (b : Bool) → AllByRecursion P (filter p xs) → AllByRecursion P (cond b (x ∷ filter p xs) (filter p xs))
    by true later = (h.0, later)
    by false later = later

pub each_replicate : {X : Type 0} (P : X → Type 0) (n : ℕ) (x : X) → P x → AllByRecursion P (replicate n x)
each_replicate P zero x h = tt
each_replicate P (suc n) x h = (h, each_replicate P n x h)

-- ---- in a loop

-- one item more
pub each_more : {X : Type 0} (P : X → Type 0) (xs : List X) (i : ℕ) (x : X) → i < length xs → x ≡ get_or xs i x → P x → AllByRecursion P (take i xs) → AllByRecursion P (take (i + 1) xs)
each_more {X} P xs i x l e h a =
    let Q : List X → Type 0 = λ ys. AllByRecursion P ys in
    let R : X → Type 0 = λ y. P y in
    subst Q (sym (take_more xs i x l)) (each_last P (take i xs) (get_or xs i x) a (subst R e h))

-- every item was passed
pub each_all : {X : Type 0} (P : X → Type 0) (xs ys : List X) (i : ℕ) → length xs ≤ i → xs ≡ ys → AllByRecursion P (take i xs) → AllByRecursion P ys
each_all {X} P xs ys i l e a = let Q : List X → Type 0 = λ zs. AllByRecursion P zs in subst Q (take_all i xs l ∙ e) a
