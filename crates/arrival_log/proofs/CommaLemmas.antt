-- One more item behind items with commas between them.
use Rattle.std.proofs.Common.{◌≡◌, ◌∙◌, ℕ, ◌+◌, ◌<◌, List, [], ◌∷◌, ◌++◌, append_assoc, arith, ap, get_or, length, map, refl, sym, take}
use Rattle.std.proofs.lemmas.List.{length-map, length-take, map-append, take_more}
use Rattle.arrival_log.specs.Commas.{comma_before}
use Rattle.arrival_log.specs.LogText.{comma_joined}

comma_joined-push : (parts : List (List ℕ)) (part : List ℕ) → comma_joined (parts ++ part ∷ []) ≡ comma_joined parts ++ (comma_before (length parts) ++ part)
comma_joined-push [] part = refl
comma_joined-push (x ∷ []) part = refl
comma_joined-push (x ∷ y ∷ parts) part =
    ap (λ (rest : List ℕ). x ++ 44 ∷ rest) (comma_joined-push (y ∷ parts) part)
    ∙ sym (append_assoc x (44 ∷ comma_joined (y ∷ parts)) (44 ∷ part))

-- the items up to the one at place i
pub comma_joined-more : {X : Type 0} (f : X → List ℕ) (xs : List X) (i : ℕ) (d : X) → i < length xs → comma_joined (map f (take (i + 1) xs)) ≡ comma_joined (map f (take i xs)) ++ (comma_before i ++ f (get_or xs i d))
comma_joined-more {X} f xs i d within =
    let here : length (map f (take i xs)) ≡ i = omega (arith, length-map (take i xs) f, length-take i xs) in
    ap (λ (ys : List X). comma_joined (map f ys)) (take_more xs i d within)
    ∙ ap comma_joined (map-append f (take i xs) (get_or xs i d ∷ []))
    ∙ comma_joined-push (map f (take i xs)) (f (get_or xs i d))
    ∙ ap (λ (n : ℕ). comma_joined (map f (take i xs)) ++ (comma_before n ++ f (get_or xs i d))) here

-- a loop's step: the comma is appended, then the item
pub item_written : {X : Type 0} (f : X → List ℕ) (xs : List X) (i : ℕ) (d x : X) (start so_far with_comma now : List ℕ) → i < length xs → x ≡ get_or xs i d → so_far ≡ start ++ comma_joined (map f (take i xs)) → with_comma ≡ so_far ++ comma_before i → now ≡ with_comma ++ f x → now ≡ start ++ comma_joined (map f (take (i + 1) xs))
item_written {X} f xs i d x start so_far with_comma now within item so_far_is comma_is now_is =
    let before : List ℕ = comma_joined (map f (take i xs)) in
    now_is
    ∙ ap (λ (text : List ℕ). text ++ f x) (comma_is ∙ ap (λ (text : List ℕ). text ++ comma_before i) so_far_is)
    ∙ append_assoc (start ++ before) (comma_before i) (f x)
    ∙ append_assoc start before (comma_before i ++ f x)
    ∙ ap (λ (y : X). start ++ (before ++ (comma_before i ++ f y))) item
    ∙ ap (λ (text : List ℕ). start ++ text) (sym (comma_joined-more f xs i d within))
