-- What holds of each item of a list, and of each pattern that may take a number.
use Rattle.std.proofs.Common.{inl, inr, List, [], ◌∷◌, subst, ◌≡◌, ℕ, Bool, true, false, cond, refl}
use Rattle.std.specs.List.{AllByRecursion, filter}
use Rattle.pattern_core.specs.Members.{IsIn}
use Rattle.guard_eval.specs.Meaning.{Assignment}
use Rattle.row_screens.specs.Offers.{Offered, may_take}

pub all_in : {X : Type 0} (P : X → Type 0) (xs : List X) (x : X) → AllByRecursion P xs → IsIn x xs → P x
all_in P [] x h m = absurd m
all_in {X} P (y ∷ xs) x h (inl e) = subst P e h.0
all_in P (y ∷ xs) x h (inr m) = all_in P xs x h.1 m

-- each of the patterns that may take the number may
pub all_take : (o : Offered) (slots : Assignment) (ps : List ℕ) → AllByRecursion (λ p. may_take o slots p ≡ true) (filter (may_take o slots) ps)
all_take o slots [] = tt
all_take o slots (p ∷ ps) = by (may_take o slots p) refl (all_take o slots ps)
  where
    by : (b : Bool) → may_take o slots p ≡ b → AllByRecursion (λ x. may_take o slots x ≡ true) (filter (may_take o slots) ps)
        → AllByRecursion (λ x. may_take o slots x ≡ true) (cond b (p ∷ filter (may_take o slots) ps) (filter (may_take o slots) ps))
    by true e later = (e, later)
    by false e later = later
