-- Lists that are filtered twice, and lists that are joined end to end.
use Rattle.std.proofs.Common.{◌≡◌, ◌∙◌, List, [], ◌∷◌, ◌++◌, refl, sym, ap, append_assoc, Bool, true, false, ◌&&◌, cond, ℕ}
use Rattle.std.specs.List.{flat_map, filter}
use Rattle.tree_rows.specs.Routes.{Branch, node_routes, row_routes}

pub flat_map-append : {X Y : Type 0} (f : X → List Y) (xs ys : List X) → flat_map f (xs ++ ys) ≡ flat_map f xs ++ flat_map f ys
flat_map-append f [] ys = refl
flat_map-append f (x ∷ xs) ys = ap (λ zs. f x ++ zs) (flat_map-append f xs ys) ∙ sym (append_assoc (f x) (flat_map f xs) (flat_map f ys))

-- one filter for two
pub filter_both : {X : Type 0} (p q r : X → Bool) → ((x : X) → (p x && q x) ≡ r x) → (xs : List X) → filter q (filter p xs) ≡ filter r xs
filter_both p q r is [] = refl
filter_both {X} p q r is (x ∷ xs) = by (p x) refl (filter_both p q r is xs)
  where
    by : (b : Bool) → p x ≡ b → filter q (filter p xs) ≡ filter r xs → filter q (cond b (x ∷ filter p xs) (filter p xs)) ≡ cond (r x) (x ∷ filter r xs) (filter r xs)
    by true e later = let here : q x ≡ r x = sym (λ i. e i && q x) ∙ is x in λ i. cond (here i) (x ∷ later i) (later i)
    by false e later = let here : false ≡ r x = sym (λ i. e i && q x) ∙ is x in later ∙ (λ i. cond (here i) (x ∷ filter r xs) (filter r xs))

pub row_append : (q : ℕ) (xs ys : List Branch) → row_routes q (xs ++ ys) ≡ row_routes q xs ++ row_routes q ys
row_append q xs ys = flat_map-append (node_routes q) xs ys
