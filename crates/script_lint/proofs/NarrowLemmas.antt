-- A match has as many different numbers as patterns, and a window sees no more than its size.
use Rattle.std.proofs.Common.{◌≡◌, ◌∙◌, ℕ, zero, suc, ◌+◌, ◌-◌, ◌<◌, ◌≤◌, List, [], ◌∷◌, length, map, true, false, Option, None, Some, slice_get, refl, ap, sym, arith}
use Rattle.std.specs.Prelude.{◌==◌, eqb, nat_lt}
use Rattle.std.specs.List.{AllByRecursion, IsDistinct, list_any}
use Rattle.std.proofs.lemmas.Bool.Decides.{nat_tests}
use Rattle.std.proofs.lemmas.List.{length-map}
use Rattle.std.proofs.lemmas.Map.Steps.{length-le_from_distinct_below}
use Rattle.std.proofs.lemmas.Bool.{or_parts}
use Rattle.join_base.specs.declared.message.Message.{Message}
use Rattle.guard_eval.specs.Meaning.{recorded_message}
use Rattle.pattern_core.specs.declared.definition.Definition.{Definition}
use Rattle.pattern_core.specs.Assigns.{Assigns}
use Rattle.pattern_core.specs.Choice.{slots_of}
use Rattle.pattern_core.specs.Matches.{holds_number, is_of_kind}
use Rattle.pattern_core.specs.Window.{is_seen, seen_of}
use Rattle.pattern_core.proofs.MembersLemmas.{IsIn-filter_from, IsIn-map_from}
use Rattle.fair_semantics.proofs.FitsLemmas.{length-Assigns}
use Rattle.fair_semantics.proofs.ListLemmas.{each_in}
use Rattle.fair_semantics.proofs.CountedLemmas.{same_number}
use Rattle.script_lint.specs.Findings.{is_less_than, is_narrow}
use Rattle.script_lint.proofs.ListLemmas.{any_in}

slice_get-within : {X : Type 0} (xs : List X) (i : ℕ) (x : X) → slice_get xs i ≡ Some x → i < length xs
slice_get-within [] i x e = absurd cc
slice_get-within (y ∷ xs) zero x e = omega arith
slice_get-within (y ∷ xs) (suc i) x e = let later = slice_get-within xs i x e in omega arith

-- a number whose message has a kind is that of a recorded one
recorded_by_kind : (messages : List Message) (n kind : ℕ) → is_of_kind (recorded_message messages n) kind ≡ true → n ≤ length messages
recorded_by_kind messages zero kind e = omega arith
recorded_by_kind messages (suc n) kind e = by (slice_get messages n) refl e
  where
    by : (o : Option Message) → slice_get messages n ≡ o → is_of_kind o kind ≡ true → suc n ≤ length messages
    by None f e = absurd cc
    by (Some m) f e = let l = slice_get-within messages n m f in omega arith

module _ (messages : List Message) (live : List ℕ) (d : Definition) (window : ℕ) (is_window : d.window ≡ Some window) where
  -- one of the latest messages, as many as the window says
  record IsLate (n : ℕ) : Type 0 where
    recorded : n ≤ length messages
    late : length messages < n + window

  seen_tells : (r n : ℕ) → is_seen (Some window) r n ≡ true → r < n + window
  seen_tells r n e = grind (arith, nat_tests)

  abbrev seen : List ℕ
  seen = seen_of d (length messages) live

  are_late : (kinds taken : List ℕ) → Assigns messages seen kinds (slots_of taken) → AllByRecursion IsLate taken
  are_late [] [] a = tt
  are_late [] (n ∷ taken) a = absurd a
  are_late (kind ∷ kinds) [] a = absurd a
  are_late (kind ∷ kinds) (n ∷ taken) a =
      let passed = (IsIn-filter_from (is_seen d.window (length messages)) n live a.0.is_live).1 in (
        record {
          recorded = recorded_by_kind messages n kind a.0.of_kind;
          late = seen_tells (length messages) n (ap (λ (w : Option ℕ). is_seen w (length messages) n) (sym is_window) ∙ passed);
        },
        are_late kinds taken a.1,
      )

  -- how far a number is behind the latest one
  abbrev behind : ℕ → ℕ
  behind n = length messages - n

  apart_behind : (r n m : ℕ) → n ≤ r → m ≤ r → (n == m) ≡ false → eqb (r - n) (r - m) ≡ false
  apart_behind r n m l k e = grind (arith, nat_tests)

  apart_all : (n : ℕ) → n ≤ length messages → (taken : List ℕ) → AllByRecursion IsLate taken → holds_number (slots_of taken) n ≡ false → AllByRecursion (λ y. eqb (behind n) y ≡ false) (map behind taken)
  apart_all n l [] late e = tt
  apart_all n l (m ∷ taken) late e =
      let parts = or_parts (n == m) (holds_number (slots_of taken) n) e in
      (apart_behind (length messages) n m l late.0.recorded parts.0, apart_all n l taken late.1 parts.1)

  distinct : (kinds taken : List ℕ) → Assigns messages seen kinds (slots_of taken) → AllByRecursion IsLate taken → IsDistinct eqb (map behind taken)
  unfolding IsDistinct
  distinct [] [] a late = tt
  distinct [] (n ∷ taken) a late = absurd a
  distinct (kind ∷ kinds) [] a late = absurd a
  distinct (kind ∷ kinds) (n ∷ taken) a late = (apart_all n late.0.recorded taken late.1 a.0.apart, distinct kinds taken a.1 late.1)

  near : (taken : List ℕ) → AllByRecursion IsLate taken → (q : ℕ) → list_any (eqb q) (map behind taken) ≡ true → q < window
  near taken late q e =
      let found = any_in (eqb q) (map behind taken) e in
      let from = IsIn-map_from behind found.0 taken found.1 in
      let is_late = each_in IsLate taken late from.0 from.1 in
      let same = same_number q found.0 found.2 in
      let gap : behind from.0 ≡ found.0 = from.2 in
      omega (arith, same, gap, is_late.recorded, is_late.late)

  few_numbers : (kinds taken : List ℕ) → Assigns messages seen kinds (slots_of taken) → length kinds ≤ window
  few_numbers kinds taken a =
      let late = are_late kinds taken a in
      let few = length-le_from_distinct_below (map behind taken) window (distinct kinds taken a late) (near taken late) in
      omega (arith, few, length-map taken behind, length-Assigns messages seen kinds taken a)

pub narrow_has_none : (messages : List Message) (live : List ℕ) (d : Definition) (taken : List ℕ) → Assigns messages (seen_of d (length messages) live) d.patterns (slots_of taken) → is_narrow d ≡ true → ⊥
narrow_has_none messages live d taken a e = by d.window refl e
  where
    less : (w n : ℕ) → nat_lt w n ≡ true → w < n
    less w n e = grind (arith, nat_tests)

    by : (w : Option ℕ) → d.window ≡ w → is_less_than w (length d.patterns) ≡ true → ⊥
    by None f e = absurd cc
    by (Some w) f e = absurd (omega (arith, few_numbers messages live d w f d.patterns taken a, less w (length d.patterns) e))
