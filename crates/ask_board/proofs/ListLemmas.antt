-- What stands at a place of a list that was changed at one place.
use Rattle.std.proofs.Common.{◌≡◌, ℕ, zero, suc, List, [], ◌∷◌, map, Some, slice_get, slice_set, refl, sym, ap}

pub get_same : {X : Type 0} (xs : List X) (k : ℕ) (x y : X) → slice_get xs k ≡ Some x → slice_get (slice_set xs k y) k ≡ Some y
get_same [] k x y e = absurd cc
get_same (z ∷ xs) zero x y e = refl
get_same (z ∷ xs) (suc k) x y e = get_same xs k x y e

pub get_other : {X : Type 0} (xs : List X) (k j : ℕ) (y : X) → (j ≡ k → ⊥) → slice_get (slice_set xs k y) j ≡ slice_get xs j
get_other [] k j y h = refl
get_other (z ∷ xs) zero zero y h = absurd (h refl)
get_other (z ∷ xs) zero (suc j) y h = refl
get_other (z ∷ xs) (suc k) zero y h = refl
get_other (z ∷ xs) (suc k) (suc j) y h = get_other xs k j y (λ e. h (ap suc e))

pub set_here : {X : Type 0} (xs : List X) (k : ℕ) (x : X) → slice_get xs k ≡ Some x → slice_set xs k x ≡ xs
set_here [] k x e = refl
set_here {X} (z ∷ xs) zero x e = let same : z ≡ x = cc in ap (λ (w : X). w ∷ xs) (sym same)
set_here {X} (z ∷ xs) (suc k) x e = ap (λ (ws : List X). z ∷ ws) (set_here xs k x e)

-- an item is replaced by one that f cannot tell from it
pub map_set : {X Y : Type 0} (f : X → Y) (xs : List X) (k : ℕ) (x y : X) → slice_get xs k ≡ Some x → f y ≡ f x → map f (slice_set xs k y) ≡ map f xs
map_set f [] k x y e same = absurd cc
map_set {X} {Y} f (z ∷ xs) zero x y e same = let is : z ≡ x = cc in let both : f y ≡ f z = cc in ap (λ (w : Y). w ∷ map f xs) both
map_set {X} {Y} f (z ∷ xs) (suc k) x y e same = ap (λ (ws : List Y). f z ∷ ws) (map_set f xs k x y e same)

-- one item of a mapped list comes from one of another that is mapped to the same
pub twin : {X Y Z : Type 0} (f : X → Z) (g : Y → Z) (xs : List X) (ys : List Y) (k : ℕ) (y : Y) → map f xs ≡ map g ys → slice_get ys k ≡ Some y → (x : X) × (slice_get xs k ≡ Some x) × (f x ≡ g y)
twin f g xs [] k y m e = absurd cc
twin f g [] (z ∷ ys) k y m e = absurd cc
twin f g (x ∷ xs) (z ∷ ys) zero y m e = (x, refl, cc)
twin f g (x ∷ xs) (z ∷ ys) (suc k) y m e = let rest : map f xs ≡ map g ys = cc in twin f g xs ys k y rest e
