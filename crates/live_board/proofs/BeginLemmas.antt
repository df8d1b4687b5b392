-- Beginnings of one list.
use Rattle.std.proofs.Common.{◌≡◌, ℕ, ◌≤◌, Bool, true, false, List, [], ◌∷◌, ◌++◌, length, refl, ap, sym, ◌∙◌, arith, append_assoc}
use Rattle.std.specs.Prelude.{MatchBool, nat_le}
use Rattle.std.proofs.lemmas.Bool.Decides.{nat_tests}
use Rattle.std.proofs.lemmas.List.{append-nil}
use mathlib.Core.List.{IsPrefix}

-- each list begins with itself
pub prefix-self : {A : Type 0} (xs : List A) → IsPrefix xs xs
prefix-self xs = ([], append-nil xs)

pub prefix-trans : {A : Type 0} (xs ys zs : List A) → IsPrefix xs ys → IsPrefix ys zs → IsPrefix xs zs
prefix-trans xs ys zs p q = (p.0 ++ q.0, sym (append_assoc xs p.0 q.0) ∙ (ap (λ w. w ++ q.0) p.1 ∙ q.1))

-- of two beginnings of one list the shorter begins the longer
pub prefix-shorter : {A : Type 0} (xs ys zs : List A) → IsPrefix xs zs → IsPrefix ys zs → length xs ≤ length ys → IsPrefix xs ys
prefix-shorter [] ys zs p q le = (ys, refl)
prefix-shorter (x ∷ xs) [] zs p q le = absurd (omega arith)
prefix-shorter (x ∷ xs) (y ∷ ys) [] p q le = absurd (cc (p.1))
prefix-shorter (x ∷ xs) (y ∷ ys) (z ∷ zs) p q le =
    let heads : x ≡ y = cc (p.1, q.1) in
    let rest = prefix-shorter xs ys zs (p.0, cc (p.1)) (q.0, cc (q.1)) (omega arith) in
    (rest.0, cc (heads, rest.1))

-- of two beginnings that are counted, the one with no more items begins the other
pub prefix-ordered : {A : Type 0} (xs ys zs : List A) (n m : ℕ) → n ≡ length xs → m ≡ length ys → IsPrefix xs zs → IsPrefix ys zs
    → (b : Bool) → nat_le n m ≡ b → MatchBool b (IsPrefix xs ys) (IsPrefix ys xs)
prefix-ordered xs ys zs n m one two p q true is = (let less : length xs ≤ length ys = grind (arith, nat_tests) in prefix-shorter xs ys zs p q less)
prefix-ordered xs ys zs n m one two p q false is = (let less : length ys ≤ length xs = grind (arith, nat_tests) in prefix-shorter ys xs zs q p less)

-- a beginning as long as the whole is the whole
pub prefix-whole : {A : Type 0} (xs ys : List A) → IsPrefix xs ys → length ys ≤ length xs → xs ≡ ys
prefix-whole [] [] p le = refl
prefix-whole [] (y ∷ ys) p le = absurd (omega arith)
prefix-whole (x ∷ xs) [] p le = absurd (cc (p.1))
prefix-whole (x ∷ xs) (y ∷ ys) p le =
    let rest = prefix-whole xs ys (p.0, cc (p.1)) (omega arith) in cc (p.1, rest)

-- what begins a list begins it with one item more
pub longer-begins : {A : Type 0} (xs ys zs : List A) (y : A) → IsPrefix xs ys → zs ≡ ys ++ y ∷ [] → IsPrefix xs zs
longer-begins xs ys zs y p more = prefix-trans xs ys zs p (y ∷ [], sym more)
