-- What is done of a list, and what is left of it.
use Rattle.std.proofs.Common.{◌≡◌, ◌∙◌, List, [], ◌∷◌, ◌++◌, ap, sym, append_assoc}

-- the first of what is left is done
pub one_done : {X : Type 0} (all left rest done : List X) (x : X) → all ≡ done ++ left → left ≡ x ∷ rest → all ≡ (done ++ x ∷ []) ++ rest
one_done all left rest done x is first = is ∙ ap (λ xs. done ++ xs) first ∙ sym (append_assoc done (x ∷ []) rest)
