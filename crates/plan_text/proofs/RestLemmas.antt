-- A list as its first item and the rest.
use Rattle.std.proofs.Common.{◌≡◌, ◌∙◌, ℕ, ◌-◌, ◌≤◌, List, [], ◌∷◌, arith, ap, drop, get_or, length, sym, take}
use Rattle.std.proofs.lemmas.List.{take_all}

-- the items behind the first, as `[first, rest @ ..]` has them
abbrev pub rest : {X : Type 0} → List X → List X
rest xs = take (length xs - 1) (drop 1 xs)

pub rest-cons : {X : Type 0} (x : X) (xs : List X) → rest (x ∷ xs) ≡ xs
rest-cons x xs = take_all (length (x ∷ xs) - 1) xs (omega arith)

-- the first item, and the others as far as a loop has come at its end
pub first_and_rest : {X : Type 0} (xs : List X) (x : X) (i : ℕ) → 1 ≤ length xs → x ≡ get_or xs 0 x → length (rest xs) ≤ i → xs ≡ x ∷ take i (rest xs)
first_and_rest [] x i some first all = absurd (omega arith)
first_and_rest {X} (y ∷ ys) x i some first all =
    ap (λ (z : X). z ∷ ys) (sym first)
    ∙ ap (λ (zs : List X). x ∷ zs) (sym (take_all i (rest (y ∷ ys)) all ∙ rest-cons y ys))
