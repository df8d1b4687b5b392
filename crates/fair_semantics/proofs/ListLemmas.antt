-- A fact that holds of each item of a list.
use Rattle.std.proofs.Common.{◌≡◌, inl, inr, ℕ, zero, suc, List, [], ◌∷◌, slice_get, map, Some, refl, subst}
use Rattle.std.specs.List.{AllByRecursion}
use Rattle.pattern_core.specs.Members.{IsIn}
pub use Rattle.join_base.proofs.EachLemmas.{each_at, each_from, each_from_All, each_map, each_append, each_left, each_right, each_replicate, each_more, each_all}

pub each_in : {X : Type 0} (P : X → Type 0) (xs : List X) → AllByRecursion P xs → (x : X) → IsIn x xs → P x
each_in P [] h x i = absurd i
each_in P (y ∷ xs) h x (inl is) = let here = h.0 in subst (λ z. P z) is here
each_in P (y ∷ xs) h x (inr i) = each_in P xs h.1 x i

-- the item that a mapped one comes from
pub mapped_at : {X Y : Type 0} (f : X → Y) (xs : List X) (i : ℕ) (y : Y) → slice_get (map f xs) i ≡ Some y → (x : X) × (slice_get xs i ≡ Some x) × (f x ≡ y)
mapped_at f [] i y e = absurd cc
mapped_at f (x ∷ xs) zero y e = (x, refl, cc)
mapped_at f (x ∷ xs) (suc i) y e = mapped_at f xs i y e
