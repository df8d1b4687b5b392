-- How often a number stands in a list: in two lists together, among those that were left, and at places of a list.
use Rattle.std.proofs.Common.{◌≡◌, ◌∙◌, inl, inr, ℕ, zero, suc, ◌+◌, ◌<◌, ◌≤◌, List, [], ◌∷◌, ◌++◌, length, map, Bool, true, false, cond, refl, ap, sym, subst, arith}
use Rattle.std.specs.Prelude.{◌==◌, not, slice_index}
use Rattle.std.specs.List.{AllByRecursion, IsDistinct, filter}
use Rattle.std.proofs.lemmas.Bool.{or_parts}
use Rattle.std.proofs.lemmas.Bool.Decides.{nat_tests}
use Rattle.join_base.specs.Taken.{contains_number, without}
use Rattle.join_base.specs.declared.message.Message.{Message}
use Rattle.pattern_core.specs.Assigns.{Assigns}
use Rattle.pattern_core.specs.Choice.{slots_of}
use Rattle.pattern_core.specs.Matches.{holds_number}
use Rattle.pattern_core.specs.Members.{IsIn}
use Rattle.run_laws.specs.Replies.{one_where, times}

is_same : (n m : ℕ) → m ≡ n → (n == m) ≡ true
is_same n m e = grind (arith, nat_tests)

pub same_of : (n m : ℕ) → (n == m) ≡ true → n ≡ m
same_of n m e = grind (arith, nat_tests)

itself : (n : ℕ) → (n == n) ≡ false → ⊥
itself n e = absurd (grind (arith, nat_tests))

pub times-append : (n : ℕ) (xs ys : List ℕ) → times n (xs ++ ys) ≡ times n xs + times n ys
times-append n [] ys = omega arith
times-append n (x ∷ xs) ys = let later = times-append n xs ys in omega arith

times_in : (n : ℕ) (xs : List ℕ) → IsIn n xs → 1 ≤ times n xs
times_in n [] h = absurd h
times_in n (x ∷ xs) (inl e) = let here : one_where (n == x) ≡ 1 = ap one_where (is_same n x e) in omega arith
times_in n (x ∷ xs) (inr h) = let later = times_in n xs h in omega arith

-- ---- some of a list

pub times_filter : (p : ℕ → Bool) (n : ℕ) (xs : List ℕ) → times n (filter p xs) ≤ times n xs
times_filter p n [] = omega arith
times_filter p n (x ∷ xs) = by (p x) (times_filter p n xs)
  where
    by : (b : Bool) → times n (filter p xs) ≤ times n xs → times n (cond b (x ∷ filter p xs) (filter p xs)) ≤ one_where (n == x) + times n xs
    by true later = omega arith
    by false later = omega arith

not_among : (n : ℕ) (taken : List ℕ) → contains_number taken n ≡ false → times n taken ≡ 0
not_among n [] e = refl
not_among n (m ∷ taken) e =
    let parts = or_parts (n == m) (contains_number taken n) e in
    let here : one_where (n == m) ≡ 0 = ap one_where parts.0 in
    let later = not_among n taken parts.1 in
    omega arith

-- a number that was taken is not left
none_left : (n : ℕ) (taken live : List ℕ) → contains_number taken n ≡ true → times n (without live taken) ≡ 0
none_left n taken [] e = refl
none_left n taken (x ∷ live) e = by (contains_number taken x) refl (none_left n taken live e)
  where
    other : contains_number taken x ≡ false → (b : Bool) → (n == x) ≡ b → times n (without live taken) ≡ 0 → one_where b + times n (without live taken) ≡ 0
    other lacks false s later = omega arith
    other lacks true s later = let clash : true ≡ false = sym e ∙ ap (contains_number taken) (same_of n x s) ∙ lacks in absurd cc

    by : (b : Bool) → contains_number taken x ≡ b → times n (without live taken) ≡ 0 → times n (cond (not b) (x ∷ without live taken) (without live taken)) ≡ 0
    by true has later = later
    by false lacks later = other lacks (n == x) refl later

-- numbers that are live, each once, and those that are left without them
pub times_left : (n : ℕ) (taken live : List ℕ) → times n taken ≤ times n live → times n taken ≤ 1 → times n taken + times n (without live taken) ≤ times n live
times_left n taken live among once = by (contains_number taken n) refl
  where
    by : (b : Bool) → contains_number taken n ≡ b → times n taken + times n (without live taken) ≤ times n live
    by true e = let none = none_left n taken live e in omega (arith, among)
    by false e = let none = not_among n taken e in let fewer = times_filter (λ m. not (contains_number taken m)) n live in omega arith

-- ---- the numbers of an assignment

not_held : (n : ℕ) (taken : List ℕ) → holds_number (slots_of taken) n ≡ false → times n taken ≡ 0
not_held n [] e = refl
not_held n (m ∷ taken) e =
    let parts = or_parts (n == m) (holds_number (slots_of taken) n) e in
    let here : one_where (n == m) ≡ 0 = ap one_where parts.0 in
    let later = not_held n taken parts.1 in
    omega arith

-- a number stands there at most once, and only where it may be taken
pub record StandsOnce (n : ℕ) (taken seen : List ℕ) : Type 0 where
  pub once : times n taken ≤ 1
  pub among : times n taken ≤ times n seen

pub assigned_once : (messages : List Message) (seen kinds taken : List ℕ) (n : ℕ) → Assigns messages seen kinds (slots_of taken) → StandsOnce n taken seen
assigned_once messages seen [] [] n a = record { once = omega arith; among = omega arith }
assigned_once messages seen [] (m ∷ taken) n a = absurd a
assigned_once messages seen (kind ∷ kinds) [] n a = absurd a
assigned_once messages seen (kind ∷ kinds) (m ∷ taken) n a = by (n == m) refl (assigned_once messages seen kinds taken n a.1)
  where
    by : (b : Bool) → (n == m) ≡ b → StandsOnce n taken seen → StandsOnce n (m ∷ taken) seen
    by true e later =
        let same : m ≡ n = sym (same_of n m e) in
        let here : one_where (n == m) ≡ 1 = ap one_where e in
        let none : times n taken ≡ 0 = not_held n taken (subst (λ (k : ℕ). holds_number (slots_of taken) k ≡ false) same a.0.apart) in
        let some : 1 ≤ times n seen = times_in n seen (subst (λ (k : ℕ). IsIn k seen) same a.0.is_live) in
        record { once = omega arith; among = omega arith }
    by false e later = let here : one_where (n == m) ≡ 0 = ap one_where e in record { once = omega (arith, later.once); among = omega (arith, later.among) }

-- ---- the numbers at places

at_place : (taken : List ℕ) (p n : ℕ) → p < length taken → slice_index taken p ≡ n → 1 ≤ times n taken
at_place [] p n l e = absurd (omega arith)
at_place (t ∷ taken) zero n l e = let here : one_where (n == t) ≡ 1 = ap one_where (is_same n t e) in omega arith
at_place (t ∷ taken) (suc p) n l e = let later = at_place taken p n (omega arith) e in omega arith

places_before : (p q : ℕ) → (suc p == suc q) ≡ false → (p == q) ≡ false
places_before p q h = grind (arith, nat_tests)

at_two_places : (taken : List ℕ) (p q n : ℕ) → p < length taken → q < length taken → (p == q) ≡ false → slice_index taken p ≡ n → slice_index taken q ≡ n → 2 ≤ times n taken
at_two_places [] p q n l k apart e f = absurd (omega arith)
at_two_places (t ∷ taken) zero zero n l k apart e f = absurd (itself 0 apart)
at_two_places (t ∷ taken) zero (suc q) n l k apart e f =
    let here : one_where (n == t) ≡ 1 = ap one_where (is_same n t e) in
    let later = at_place taken q n (omega arith) f in
    omega arith
at_two_places (t ∷ taken) (suc p) zero n l k apart e f =
    let here : one_where (n == t) ≡ 1 = ap one_where (is_same n t f) in
    let later = at_place taken p n (omega arith) e in
    omega arith
at_two_places (t ∷ taken) (suc p) (suc q) n l k apart e f = let later = at_two_places taken p q n (omega arith) (omega arith) (places_before p q apart) e f in omega arith

abbrev pub at_places : List ℕ → List ℕ → List ℕ
at_places taken places = map (λ p. slice_index taken p) places

module _ (taken : List ℕ) (n : ℕ) (once : times n taken ≤ 1) where
  at_no_other : (p : ℕ) → p < length taken → slice_index taken p ≡ n → (places : List ℕ) → AllByRecursion (λ q. (p == q) ≡ false) places → AllByRecursion (λ q. q < length taken) places → times n (at_places taken places) ≡ 0
  at_no_other p l e [] apart within = refl
  at_no_other p l e (q ∷ places) apart within = by (n == slice_index taken q) refl (at_no_other p l e places apart.1 within.1)
    where
      by : (b : Bool) → (n == slice_index taken q) ≡ b → times n (at_places taken places) ≡ 0 → one_where b + times n (at_places taken places) ≡ 0
      by true s later = let two = at_two_places taken p q n l within.0 apart.0 e (sym (same_of n (slice_index taken q) s)) in absurd (omega (arith, two, once))
      by false s later = omega arith

  -- different places of a list in which the number stands at most once
  pub times_at : (places : List ℕ) → IsDistinct (λ p q. p == q) places → AllByRecursion (λ q. q < length taken) places → times n (at_places taken places) ≤ times n taken
  unfolding IsDistinct
  times_at [] apart within = omega arith
  times_at (p ∷ places) apart within = by (n == slice_index taken p) refl apart.0 (times_at places apart.1 within.1)
    where
      by : (b : Bool) → (n == slice_index taken p) ≡ b → AllByRecursion (λ q. (p == q) ≡ false) places → times n (at_places taken places) ≤ times n taken → one_where b + times n (at_places taken places) ≤ times n taken
      by true s others later =
          let here : slice_index taken p ≡ n = sym (same_of n (slice_index taken p) s) in
          let none = at_no_other p within.0 here places others within.1 in
          let some = at_place taken p n within.0 here in
          omega arith
      by false s others later = omega arith
