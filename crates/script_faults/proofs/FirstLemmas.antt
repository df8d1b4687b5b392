-- The first fault of two lists.
use Rattle.std.proofs.Common.{◌≡◌, ◌++◌, ℕ, zero, suc, ◌+◌, ◌<◌, List, [], ◌∷◌, length, drop, get_or, Option, refl, sym, ap, subst, ◌∙◌, arith}
use Rattle.std.specs.List.{flat_map}
use Rattle.script_faults.specs.declared.first.Fault.{Fault}
use Rattle.script_faults.specs.First.{earlier, first_of}

pub first_of-append : (found : Option Fault) (faults others : List Fault) → first_of found (faults ++ others) ≡ first_of (first_of found faults) others
first_of-append found [] others = refl
first_of-append found (f ∷ faults) others = first_of-append (earlier found f) faults others

-- one list and then another
pub first_of-then : (found middle last : Option Fault) (faults others : List Fault) → middle ≡ first_of found faults → last ≡ first_of middle others → last ≡ first_of found (faults ++ others)
first_of-then found middle last faults others is-middle is-last = is-last ∙ ap (λ (o : Option Fault). first_of o others) is-middle ∙ sym (first_of-append found faults others)

drop_suc : {X : Type 0} (xs : List X) (i : ℕ) (x : X) → i < length xs → get_or xs i x ≡ x → drop i xs ≡ x ∷ drop (suc i) xs
drop_suc [] i x within is = absurd (omega (arith, within))
drop_suc {X} (y ∷ xs) zero x within is = ap (λ (z : X). z ∷ xs) is
drop_suc (y ∷ xs) (suc i) x within is = drop_suc xs i x (omega (arith, within)) is

pub drop_next : {X : Type 0} (xs : List X) (i : ℕ) (x : X) → i < length xs → get_or xs i x ≡ x → drop i xs ≡ x ∷ drop (i + 1) xs
drop_next {X} xs i x within is = let next : suc i ≡ i + 1 = omega arith in subst (λ (n : ℕ). drop i xs ≡ x ∷ drop n xs) next (drop_suc xs i x within is)

-- the faults of one item, and then those of the items behind it
pub first_of-item : {X : Type 0} (faults : X → List Fault) (xs : List X) (i : ℕ) (x : X) → i < length xs → x ≡ get_or xs i x → (before after last : Option Fault)
    → after ≡ first_of before (faults x) → first_of before (flat_map faults (drop i xs)) ≡ last → first_of after (flat_map faults (drop (i + 1) xs)) ≡ last
first_of-item {X} faults xs i x within is before after last is-after is-last =
    let rest = drop (i + 1) xs in
    ap (λ (o : Option Fault). first_of o (flat_map faults rest)) is-after ∙ sym (first_of-append before (faults x) (flat_map faults rest))
    ∙ ap (λ (ys : List X). first_of before (flat_map faults ys)) (sym (drop_next xs i x within (sym is))) ∙ is-last
