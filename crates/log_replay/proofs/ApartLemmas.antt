-- Where two texts part, in bytes and in lines.
use Rattle.std.proofs.Common.{◌≡◌, ◌⊎◌, inl, inr, ◌∙◌, ℕ, zero, ◌+◌, ◌<◌, ◌≤◌, ◌==◌, List, [], ◌∷◌, ◌++◌, length, drop, Bool, true, false, None, Some, append_assoc, slice_get, refl, sym, ap, subst, arith}
use Rattle.std.specs.Prelude.{if◌then◌else◌}
use Rattle.std.specs.List.{AllByRecursion, flat_map}
use Rattle.std.proofs.Math.ListN.{drop_of_length-le}
use Rattle.std.proofs.lemmas.Bool.Decides.{nat_tests}
use Rattle.std.proofs.lemmas.List.{append_cancel_right, drop_more}
use Rattle.std.proofs.lemmas.Bool.{eqb-true}
use Rattle.log_lines.specs.Cut.{lacks}
use Rattle.log_lines.proofs.CutLemmas.{first_lacks, rest_lacks}
use Rattle.log_replay.specs.Apart.{ended_with, lines_before}
use Rattle.log_replay.proofs.FirstLemmas.{FirstPlace, place_next}

pub other_ends : (ended place : ℕ) (own other : List ℕ) → place < length own → length other ≤ place → lines_before ended (drop place own) (drop place other) ≡ Some ended
other_ends ended place own other within past =
    ap (λ (xs : List ℕ). lines_before ended (drop place own) xs) (drop_of_length-le other past) ∙ ap (λ (xs : List ℕ). lines_before ended xs []) (drop_more own place 0 within)

pub own_ends : (ended place : ℕ) (own other : List ℕ) → length own ≤ place → place < length other → lines_before ended (drop place own) (drop place other) ≡ Some ended
own_ends ended place own other past within =
    ap (λ (xs : List ℕ). lines_before ended xs (drop place other)) (drop_of_length-le own past) ∙ ap (λ (xs : List ℕ). lines_before ended [] xs) (drop_more other place 0 within)

pub both_end : (ended place : ℕ) (own other : List ℕ) → length own ≤ place → length other ≤ place → lines_before ended (drop place own) (drop place other) ≡ None
both_end ended place own other past too =
    ap (λ (xs : List ℕ). lines_before ended xs (drop place other)) (drop_of_length-le own past) ∙ ap (λ (xs : List ℕ). lines_before ended [] xs) (drop_of_length-le other too)

-- a line: no LF but its last byte
pub record IsLine (text : List ℕ) : Type 0 where
  pub body : List ℕ
  pub is : body ++ 10 ∷ [] ≡ text
  pub none : lacks 10 body ≡ true

pub itself : (a : ℕ) → (a == a) ≡ true
itself a = grind (arith, nat_tests)

turned : (a b : ℕ) → (a == b) ≡ false → (b == a) ≡ false
turned a b e = grind (arith, nat_tests)

-- two lines, and what stands behind them
abbrev Parts : ℕ → List ℕ → List ℕ → List ℕ → List ℕ → Type 0
Parts ended own other more rest =
    ((own ≡ other) × (lines_before ended (own ++ 10 ∷ more) (other ++ 10 ∷ rest) ≡ lines_before (ended + 1) more rest))
    ⊎ ((own ≡ other → ⊥) × (lines_before ended (own ++ 10 ∷ more) (other ++ 10 ∷ rest) ≡ Some ended))

-- a byte of both fronts, which is no LF
one_byte : (ended b c : ℕ) (own other more rest : List ℕ) → (b == 10) ≡ false → ((b == c) ≡ true → Parts ended own other more rest) → Parts ended (b ∷ own) (c ∷ other) more rest
one_byte ended b c own other more rest ends later = by (b == c) refl
  where
    goes_on : ended_with b ended ≡ ended
    goes_on = ap (λ (x : Bool). if x then ended + 1 else ended) ends

    step : (b == c) ≡ true → lines_before ended (b ∷ (own ++ 10 ∷ more)) (c ∷ (other ++ 10 ∷ rest)) ≡ lines_before ended (own ++ 10 ∷ more) (other ++ 10 ∷ rest)
    step e =
        ap (λ (x : Bool). if x then lines_before (ended_with b ended) (own ++ 10 ∷ more) (other ++ 10 ∷ rest) else Some ended) e
        ∙ ap (λ (n : ℕ). lines_before n (own ++ 10 ∷ more) (other ++ 10 ∷ rest)) goes_on

    from : (b == c) ≡ true → Parts ended own other more rest → Parts ended (b ∷ own) (c ∷ other) more rest
    from e (inl h) = inl ((λ i. eqb-true b c e i ∷ h.0 i), step e ∙ h.1)
    from e (inr h) = inr ((λ same. h.0 (let tails : own ≡ other = cc in tails)), step e ∙ h.1)

    by : (x : Bool) → (b == c) ≡ x → Parts ended (b ∷ own) (c ∷ other) more rest
    by true e = from e (later e)
    by false e =
        inr (
          (λ same. let heads : b ≡ c = cc in let yes : (b == c) ≡ true = ap (λ (n : ℕ). b == n) (sym heads) ∙ itself b in absurd cc),
          ap (λ (x : Bool). if x then lines_before (ended_with b ended) (own ++ 10 ∷ more) (other ++ 10 ∷ rest) else Some ended) e,
        )

parts : (ended : ℕ) (own other more rest : List ℕ) → lacks 10 own ≡ true → lacks 10 other ≡ true → Parts ended own other more rest
parts ended [] [] more rest none too = inl (refl, refl)
parts ended [] (c ∷ other) more rest none too =
    inr ((λ same. absurd cc), ap (λ (x : Bool). if x then lines_before (ended + 1) more (other ++ 10 ∷ rest) else Some ended) (turned c 10 (first_lacks (c == 10) (lacks 10 other) too)))
parts ended (b ∷ own) [] more rest none too =
    inr ((λ same. absurd cc), ap (λ (x : Bool). if x then lines_before (ended_with b ended) (own ++ 10 ∷ more) rest else Some ended) (first_lacks (b == 10) (lacks 10 own) none))
parts ended (b ∷ own) (c ∷ other) more rest none too =
    one_byte ended b c own other more rest (first_lacks (b == 10) (lacks 10 own) none)
    (λ e. parts ended own other more rest (rest_lacks (b == 10) (lacks 10 own) none) (rest_lacks (c == 10) (lacks 10 other) too))

abbrev pub joined : List (List ℕ) → List ℕ
joined lines = flat_map (λ (t : List ℕ). t) lines

-- the first line that differs
pub lines_part : (ended : ℕ) (own other : List (List ℕ)) → AllByRecursion IsLine own → AllByRecursion IsLine other → FirstPlace (λ k. slice_get own k ≡ slice_get other k) ended (lines_before ended (joined own) (joined other))
lines_part ended [] [] one too = λ k. refl
lines_part ended [] (o ∷ other) one too = none_first (o ∷ other) too.0.body too.0.is
  where
    none_first : (texts : List (List ℕ)) (body : List ℕ) → body ++ 10 ∷ [] ≡ o → FirstPlace (λ k. slice_get [] k ≡ slice_get (o ∷ other) k) ended (lines_before ended [] (o ++ joined other))
    none_first texts [] is = subst (λ (t : List ℕ). FirstPlace (λ k. slice_get [] k ≡ slice_get (o ∷ other) k) ended (lines_before ended [] (t ++ joined other))) is (zero, omega arith, (λ k l. absurd (omega arith)), λ h. absurd cc)
    none_first texts (b ∷ body) is = subst (λ (t : List ℕ). FirstPlace (λ k. slice_get [] k ≡ slice_get (o ∷ other) k) ended (lines_before ended [] (t ++ joined other))) is (zero, omega arith, (λ k l. absurd (omega arith)), λ h. absurd cc)
lines_part ended (t ∷ own) [] one too = first_none one.0.body one.0.is
  where
    first_none : (body : List ℕ) → body ++ 10 ∷ [] ≡ t → FirstPlace (λ k. slice_get (t ∷ own) k ≡ slice_get [] k) ended (lines_before ended (t ++ joined own) [])
    first_none [] is = subst (λ (x : List ℕ). FirstPlace (λ k. slice_get (t ∷ own) k ≡ slice_get [] k) ended (lines_before ended (x ++ joined own) [])) is (zero, omega arith, (λ k l. absurd (omega arith)), λ h. absurd cc)
    first_none (b ∷ body) is = subst (λ (x : List ℕ). FirstPlace (λ k. slice_get (t ∷ own) k ≡ slice_get [] k) ended (lines_before ended (x ++ joined own) [])) is (zero, omega arith, (λ k l. absurd (omega arith)), λ h. absurd cc)
lines_part ended (t ∷ own) (o ∷ other) one too = by (parts ended one.0.body too.0.body (joined own) (joined other) one.0.none too.0.none) (lines_part (ended + 1) own other one.1 too.1)
  where
    R : ℕ → Type 0
    R = λ k. slice_get (t ∷ own) k ≡ slice_get (o ∷ other) k

    text : (line : List ℕ) (h : IsLine line) (more : List ℕ) → line ++ more ≡ h.body ++ 10 ∷ more
    text line h more = ap (λ (x : List ℕ). x ++ more) (sym h.is) ∙ append_assoc h.body (10 ∷ []) more

    texts : lines_before ended (t ++ joined own) (o ++ joined other) ≡ lines_before ended (one.0.body ++ 10 ∷ joined own) (too.0.body ++ 10 ∷ joined other)
    texts = λ i. lines_before ended (text t one.0 (joined own) i) (text o too.0 (joined other) i)

    by : Parts ended one.0.body too.0.body (joined own) (joined other) → FirstPlace (λ k. slice_get own k ≡ slice_get other k) (ended + 1) (lines_before (ended + 1) (joined own) (joined other)) → FirstPlace R ended (lines_before ended (t ++ joined own) (o ++ joined other))
    by (inl h) later =
        let same : t ≡ o = sym one.0.is ∙ ap (λ (x : List ℕ). x ++ 10 ∷ []) h.0 ∙ too.0.is in
        subst (FirstPlace R ended) (sym (texts ∙ h.1)) (place_next R ended (lines_before (ended + 1) (joined own) (joined other)) (ap (λ (x : List ℕ). Some x) same) later)
    by (inr h) later =
        subst (FirstPlace R ended) (sym (texts ∙ h.1))
        (zero, omega arith, (λ k l. absurd (omega arith)), λ e. h.0 (let same : t ≡ o = cc in append_cancel_right one.0.body too.0.body (10 ∷ []) (one.0.is ∙ same ∙ sym too.0.is)))
