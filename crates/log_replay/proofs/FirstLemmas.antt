-- The first item of a list that a fact does not hold of, counted from a number.
use Rattle.std.proofs.Common.{◌≡◌, ◌⊎◌, inl, inr, ◌∙◌, ℕ, zero, suc, ◌+◌, ◌<◌, ◌≤◌, min, List, [], ◌∷◌, ◌++◌, length, Option, None, Some, subst, slice_get, arith}
use Rattle.std.specs.Prelude.{IfSome}
use Rattle.std.specs.List.{AllByRecursion}
use Rattle.std.proofs.lemmas.Bool.{cases_lt}
use Rattle.log_replay.specs.Kept.{earlier, or_else}

abbrev pub First : {X : Type 0} → (X → Type 0) → ℕ → List X → Option ℕ → Type 0
First P line [] None = Unit {0}
First P line [] (Some n) = ⊥
First P line (x ∷ xs) None = P x × First P (line + 1) xs None
First P line (x ∷ xs) (Some n) = ((n ≡ line) × (P x → ⊥)) ⊎ (P x × First P (line + 1) xs (Some n))

pub first_pass : {X : Type 0} (P : X → Type 0) (line : ℕ) (x : X) (xs : List X) (o : Option ℕ) → P x → First P (line + 1) xs o → First P line (x ∷ xs) o
first_pass P line x xs None h later = (h, later)
first_pass P line x xs (Some n) h later = inr (h, later)

pub first_behind : {X : Type 0} (P : X → Type 0) (line : ℕ) (xs ys : List X) (o : Option ℕ) → AllByRecursion P xs → First P (line + length xs) ys o → First P line (xs ++ ys) o
first_behind P line [] ys o h later = let e : line + 0 ≡ line = omega arith in subst (λ (n : ℕ). First P n ys o) e later
first_behind {X} P line (x ∷ xs) ys o h later =
    let e : line + suc (length xs) ≡ line + 1 + length xs = omega arith in
    first_pass P line x (xs ++ ys) o h.0 (first_behind P (line + 1) xs ys o h.1 (subst (λ (n : ℕ). First P n ys o) e later))

pub first_all : {X : Type 0} (P : X → Type 0) (line : ℕ) (xs : List X) → AllByRecursion P xs → First P line xs None
first_all P line [] h = tt
first_all P line (x ∷ xs) h = (h.0, first_all P (line + 1) xs h.1)

pub all_first : {X : Type 0} (P : X → Type 0) (line : ℕ) (xs : List X) → First P line xs None → AllByRecursion P xs
all_first P line [] h = tt
all_first P line (x ∷ xs) h = (h.0, all_first P (line + 1) xs h.1)

pub first_stops : {X : Type 0} (P : X → Type 0) (line : ℕ) (xs ys : List X) (n : ℕ) → First P line xs (Some n) → First P line (xs ++ ys) (Some n)
first_stops P line [] ys n h = absurd h
first_stops P line (x ∷ xs) ys n (inl h) = inl h
first_stops P line (x ∷ xs) ys n (inr h) = inr (h.0, first_stops P (line + 1) xs ys n h.1)

-- of two lists, one behind the other
pub first_else : {X : Type 0} (P : X → Type 0) (line : ℕ) (xs ys : List X) (a b : Option ℕ) → First P line xs a → First P (line + length xs) ys b → First P line (xs ++ ys) (or_else a b)
first_else P line xs ys None b h later = first_behind P line xs ys b (all_first P line xs h) later
first_else P line xs ys (Some n) b h later = first_stops P line xs ys n h

pub first_within : {X : Type 0} (P : X → Type 0) (line : ℕ) (xs : List X) (n : ℕ) → First P line xs (Some n) → (line ≤ n) × (n < line + length xs)
first_within P line [] n h = absurd h
first_within P line (x ∷ xs) n (inl h) = (omega (arith, h.0), omega (arith, h.0))
first_within P line (x ∷ xs) n (inr h) = let w = first_within P (line + 1) xs n h.1 in (omega (arith, w.0), omega (arith, w.1))

-- a fact that follows, and from which the other follows, for each of the items
pub first_same : {X : Type 0} (P Q : X → Type 0) (line : ℕ) (xs : List X) (o : Option ℕ) → AllByRecursion (λ x. (P x → Q x) × (Q x → P x)) xs → First P line xs o → First Q line xs o
first_same P Q line [] None same h = tt
first_same P Q line [] (Some n) same h = absurd h
first_same P Q line (x ∷ xs) None same h = (same.0.0 h.0, first_same P Q (line + 1) xs None same.1 h.1)
first_same P Q line (x ∷ xs) (Some n) same (inl h) = inl (h.0, λ q. h.1 (same.0.1 q))
first_same P Q line (x ∷ xs) (Some n) same (inr h) = inr (same.0.0 h.0, first_same P Q (line + 1) xs (Some n) same.1 h.1)

least_first : (n m : ℕ) → n ≤ m → min n m ≡ n
least_first n m l = omega arith

least_second : (n m : ℕ) → m ≤ n → min n m ≡ m
least_second n m l = omega arith

-- of two facts
pub first_both : {X : Type 0} (P Q : X → Type 0) (line : ℕ) (xs : List X) (a b : Option ℕ) → First P line xs a → First Q line xs b → First (λ x. P x × Q x) line xs (earlier a b)
first_both P Q line [] None None p q = tt
first_both P Q line [] None (Some m) p q = absurd q
first_both P Q line [] (Some n) b p q = absurd p
first_both P Q line (x ∷ xs) None None p q = ((p.0, q.0), first_both P Q (line + 1) xs None None p.1 q.1)
first_both P Q line (x ∷ xs) None (Some m) p (inl q) = inl (q.0, λ h. q.1 h.1)
first_both P Q line (x ∷ xs) None (Some m) p (inr q) = inr ((p.0, q.0), first_both P Q (line + 1) xs None (Some m) p.1 q.1)
first_both P Q line (x ∷ xs) (Some n) None (inl p) q = inl (p.0, λ h. p.1 h.0)
first_both P Q line (x ∷ xs) (Some n) None (inr p) q = inr ((p.0, q.0), first_both P Q (line + 1) xs (Some n) None p.1 q.1)
first_both P Q line (x ∷ xs) (Some n) (Some m) (inl p) (inl q) = inl (least_first n m (omega (arith, p.0, q.0)) ∙ p.0, λ h. p.1 h.0)
first_both P Q line (x ∷ xs) (Some n) (Some m) (inl p) (inr q) = let w = first_within Q (line + 1) xs m q.1 in inl (least_first n m (omega (arith, p.0, w.0)) ∙ p.0, λ h. p.1 h.0)
first_both P Q line (x ∷ xs) (Some n) (Some m) (inr p) (inl q) = let w = first_within P (line + 1) xs n p.1 in inl (least_second n m (omega (arith, q.0, w.0)) ∙ q.0, λ h. q.1 h.1)
first_both P Q line (x ∷ xs) (Some n) (Some m) (inr p) (inr q) = inr ((p.0, q.0), first_both P Q (line + 1) xs (Some n) (Some m) p.1 q.1)

-- ---- by places

-- the first place at which a fact does not hold, counted from a number
abbrev pub FirstPlace : (ℕ → Type 0) → ℕ → Option ℕ → Type 0
FirstPlace R line None = (k : ℕ) → R k
FirstPlace R line (Some n) = (at : ℕ) × (n ≡ line + at) × ((k : ℕ) → k < at → R k) × (R at → ⊥)

pub place_next : (R : ℕ → Type 0) (line : ℕ) (o : Option ℕ) → R zero → FirstPlace (λ k. R (suc k)) (line + 1) o → FirstPlace R line o
place_next R line None h later = by
  where
    by : (k : ℕ) → R k
    by zero = h
    by (suc k) = later k
place_next R line (Some n) h later = (suc (later.0), omega (arith, later.1), by, later.3)
  where
    by : (k : ℕ) → k < suc (later.0) → R k
    by zero l = h
    by (suc k) l = later.2 k (omega arith)

pub first_place : {X : Type 0} (P : X → Type 0) (line : ℕ) (xs : List X) (o : Option ℕ) → First P line xs o → FirstPlace (λ k. IfSome (slice_get xs k) P) line o
first_place P line [] None h = λ k. tt
first_place P line [] (Some n) h = absurd h
first_place {X} P line (x ∷ xs) None h = place_next (λ (k : ℕ). IfSome (slice_get (x ∷ xs) k) P) line None h.0 (first_place P (line + 1) xs None h.1)
first_place {X} P line (x ∷ xs) (Some n) (inl h) = (zero, omega (arith, h.0), λ k l. absurd (omega arith), h.1)
first_place {X} P line (x ∷ xs) (Some n) (inr h) = place_next (λ (k : ℕ). IfSome (slice_get (x ∷ xs) k) P) line (Some n) h.0 (first_place P (line + 1) xs (Some n) h.1)

pub both_places : (R S : ℕ → Type 0) (line : ℕ) (a b : Option ℕ) → FirstPlace R line a → FirstPlace S line b → FirstPlace (λ k. R k × S k) line (earlier a b)
both_places R S line None None r s = λ k. (r k, s k)
both_places R S line None (Some m) r s = (s.0, s.1, λ k l. (r k, s.2 k l), λ h. s.3 h.1)
both_places R S line (Some n) None r s = (r.0, r.1, λ k l. (r.2 k l, s k), λ h. r.3 h.0)
both_places R S line (Some n) (Some m) r s =
    elim (cases_lt (s.0) (r.0)) [
      | inl l ↦ (s.0, least_second n m (omega (arith, r.1, s.1)) ∙ s.1, λ k b. (r.2 k (omega arith), s.2 k b), λ h. s.3 h.1)
      | inr g ↦ (r.0, least_first n m (omega (arith, r.1, s.1)) ∙ r.1, λ k b. (r.2 k b, s.2 k (omega arith)), λ h. r.3 h.0)
    ]
