-- What is true of all assignments that are listed: what a number that may stand at a pattern keeps.
use Rattle.std.proofs.Common.{◌≡◌, inl, inr, ◌∙◌, ℕ, zero, suc, ◌+◌, ◌≤◌, ◌<◌, List, [], ◌∷◌, ◌++◌, length, drop, get_or, slice_get, slice_index, slice_set, Bool, true, false, not, ◌&&◌, Option, Some, None, refl, ap, sym, subst, arith}
use Rattle.std.specs.Prelude.{if◌then◌else◌}
use Rattle.std.specs.List.{AllByRecursion, flat_map}
use Rattle.std.proofs.lemmas.List.{at_drop_more}
use Rattle.join_base.specs.declared.message.Message.{Message}
use Rattle.join_base.proofs.EachLemmas.{each_append, each_from}
use Rattle.guard_eval.specs.Meaning.{Assignment, recorded_message, number_at, is_slot_filled}
use Rattle.guard_eval.proofs.ExtendLemmas.{both_true}
use Rattle.pattern_core.specs.declared.definition.Definition.{Definition}
use Rattle.pattern_core.specs.Matches.{is_of_kind, holds_number, is_agreeable}
use Rattle.pattern_core.specs.Members.{IsIn}
use Rattle.pattern_core.specs.Suits.{IsRecorded, SlotsSuit}
use Rattle.pattern_core.proofs.SuitsLemmas.{length-SlotsSuit, suits_empty, suits_further}
use Rattle.waiting_reasons.specs.Inside.{HasPatterns}
use Rattle.waiting_reasons.specs.Ways.{alone_at, grown, grown_at, longer, longer_at, may_stand, no_numbers, ways}
use Rattle.waiting_reasons.proofs.SlotLemmas.{empty_there, not_of}

within_of : (messages : List Message) (place kind : ℕ) → is_of_kind (slice_get messages place) kind ≡ true → suc place ≤ length messages
within_of [] place kind h = absurd cc
within_of (m ∷ messages) zero kind h = omega arith
within_of (m ∷ messages) (suc place) kind h = let later = within_of messages place kind h in omega (arith, later)

-- a number of a kind is recorded
pub recorded_kind : (messages : List Message) (n kind : ℕ) → is_of_kind (recorded_message messages n) kind ≡ true → IsRecorded messages n
recorded_kind messages zero kind h = absurd cc
recorded_kind messages (suc place) kind h = (omega arith, within_of messages place kind h)

both : (a b : Bool) → a ≡ true → b ≡ true → (a && b) ≡ true
both true b p q = q
both false b p q = absurd cc

-- what a number that may stand at a pattern is like
pub record Stands (messages : List Message) (definition : Definition) (slots : Assignment) (place number : ℕ) : Type 0 where
  pub of_kind : is_of_kind (recorded_message messages number) (slice_index definition.patterns place) ≡ true
  pub empty : is_slot_filled (number_at slots place) ≡ false
  pub apart : holds_number slots number ≡ false
  pub agreeable : is_agreeable messages definition.conjuncts (slice_set slots place (Some number)) ≡ true

module _ (messages : List Message) (definition : Definition) where
  pub stands : (slots : Assignment) (place number : ℕ) → may_stand messages definition slots place number ≡ true → Stands messages definition slots place number
  stands slots place number h =
      let kind = is_of_kind (recorded_message messages number) (slice_index definition.patterns place) in
      let filled = is_slot_filled (number_at slots place) in
      let held = holds_number slots number in
      let agrees = is_agreeable messages definition.conjuncts (slice_set slots place (Some number)) in
      let first = both_true kind (not filled && (not held && agrees)) h in
      let second = both_true (not filled) (not held && agrees) first.1 in
      let third = both_true (not held) agrees second.1 in
      record { of_kind = first.0; empty = not_of filled second.0; apart = not_of held third.0; agreeable = third.1 }

  -- and one that is like it may stand there
  pub may_from : (slots : Assignment) (place number : ℕ) → Stands messages definition slots place number → may_stand messages definition slots place number ≡ true
  may_from slots place number s =
      let kind = is_of_kind (recorded_message messages number) (slice_index definition.patterns place) in
      let filled = is_slot_filled (number_at slots place) in
      let held = holds_number slots number in
      let agrees = is_agreeable messages definition.conjuncts (slice_set slots place (Some number)) in
      both kind (not filled && (not held && agrees)) s.of_kind (both (not filled) (not held && agrees) (ap not s.empty) (both (not held) agrees (ap not s.apart) s.agreeable))

  -- what is kept where one of these numbers comes to stand at a pattern
  pub record Keeps (seen : List ℕ) (P : Assignment → Type 0) : Type 0 where
    pub further : (slots : Assignment) (place number : ℕ) → P slots → place < length definition.patterns → IsIn number seen → Stands messages definition slots place number → P (slice_set slots place (Some number))

  module _ (seen : List ℕ) (P : Assignment → Type 0) (keeps : Keeps seen P) where
    longer_has : (slots : Assignment) (place number : ℕ) → P slots → place < length definition.patterns → IsIn number seen → AllByRecursion P (longer messages definition slots place number)
    longer_has slots place number has within among = by (may_stand messages definition slots place number) refl
      where
        by : (b : Bool) → may_stand messages definition slots place number ≡ b → AllByRecursion P (if b then slice_set slots place (Some number) ∷ [] else [])
        by false e = tt
        by true e = (keeps.further slots place number has within among (stands slots place number e), tt)

    longer_at_has : (some : List ℕ) → ((n : ℕ) → IsIn n some → IsIn n seen) → (slots : Assignment) (place : ℕ) → P slots → place < length definition.patterns → AllByRecursion P (longer_at messages definition some place slots)
    longer_at_has [] among slots place has within = tt
    longer_at_has (n ∷ some) among slots place has within =
        each_append P (longer messages definition slots place n) (longer_at messages definition some place slots) (longer_has slots place n has within (among n (inl refl)))
        (longer_at_has some (λ m i. among m (inr i)) slots place has within)

    more_have : (place : ℕ) (ws : List Assignment) → place < length definition.patterns → AllByRecursion P ws → AllByRecursion P (flat_map (longer_at messages definition seen place) ws)
    more_have place [] within all = tt
    more_have place (w ∷ ws) within all =
        each_append P (longer_at messages definition seen place w) (flat_map (longer_at messages definition seen place) ws) (longer_at_has seen (λ n i. i) w place all.0 within) (more_have place ws within all.1)

    pub grown_have : (place : ℕ) (ws : List Assignment) → place < length definition.patterns → AllByRecursion P ws → AllByRecursion P (grown messages definition seen place ws)
    grown_have place ws within all = each_append P ws (flat_map (longer_at messages definition seen place) ws) all (more_have place ws within all)

    pub grown_at_have : (place : ℕ) (kinds : List ℕ) (ws : List Assignment) → place + length kinds ≤ length definition.patterns → AllByRecursion P ws → AllByRecursion P (grown_at messages definition seen place kinds ws)
    grown_at_have place [] ws many all = all
    grown_at_have place (kind ∷ kinds) ws many all =
        grown_at_have (place + 1) kinds (grown messages definition seen place ws) (omega (arith, many)) (grown_have place ws (omega (arith, many)) all)

  -- those that have the number alone
  module _ (P : Assignment → Type 0) (number : ℕ) (start : (place : ℕ) → place < length definition.patterns → Stands messages definition (no_numbers definition) place number → P (slice_set (no_numbers definition) place (Some number))) where
    alone_one : (place : ℕ) → place < length definition.patterns → AllByRecursion P (longer messages definition (no_numbers definition) place number)
    alone_one place within = by (may_stand messages definition (no_numbers definition) place number) refl
      where
        by : (b : Bool) → may_stand messages definition (no_numbers definition) place number ≡ b → AllByRecursion P (if b then slice_set (no_numbers definition) place (Some number) ∷ [] else [])
        by false e = tt
        by true e = (start place within (stands (no_numbers definition) place number e), tt)

    pub alone_have : (place : ℕ) (kinds : List ℕ) → place + length kinds ≤ length definition.patterns → AllByRecursion P (alone_at messages definition number place kinds)
    alone_have place [] many = tt
    alone_have place (kind ∷ kinds) many =
        each_append P (longer messages definition (no_numbers definition) place number) (alone_at messages definition number (place + 1) kinds)
        (alone_one place (omega (arith, many))) (alone_have (place + 1) kinds (omega (arith, many)))

  -- ---- they suit

  abbrev pub Suit : Assignment → Type 0
  Suit slots = SlotsSuit messages definition.patterns slots

  pub suit_keeps : (seen : List ℕ) → Keeps seen Suit
  suit_keeps seen = record {
    further = λ slots place number suits within among s.
        let count = length-SlotsSuit messages definition.patterns slots suits in
        let inside : place < length slots = omega (arith, within, count) in
        suits_further messages definition.patterns slots place number suits (empty_there slots place inside s.empty) (recorded_kind messages number (slice_index definition.patterns place) s.of_kind) s.of_kind s.apart;
  }

  pub grown_suits : (seen : List ℕ) (place : ℕ) (ws : List Assignment) → place < length definition.patterns → AllByRecursion Suit ws → AllByRecursion Suit (grown messages definition seen place ws)
  grown_suits seen = grown_have seen Suit (suit_keeps seen)

  pub alone_suits : (number place : ℕ) (kinds : List ℕ) → place + length kinds ≤ length definition.patterns → AllByRecursion Suit (alone_at messages definition number place kinds)
  alone_suits number =
      alone_have Suit number (λ place within s. (suit_keeps (number ∷ [])).further (no_numbers definition) place number (suits_empty messages definition.patterns) within (inl refl) s)

  pub counts : (ws : List Assignment) → AllByRecursion Suit ws → AllByRecursion (HasPatterns definition) ws
  counts ws all = each_from Suit (HasPatterns definition) (λ s suits. length-SlotsSuit messages definition.patterns s suits) ws all

  -- ---- in a loop

  -- one pattern more
  pub grown_step : (seen : List ℕ) (place : ℕ) (ws : List Assignment) → place < length definition.patterns
      → grown_at messages definition seen place (drop place definition.patterns) ws ≡ grown_at messages definition seen (place + 1) (drop (place + 1) definition.patterns) (grown messages definition seen place ws)
  grown_step seen place ws within = at_drop_more (λ (ks : List ℕ). grown_at messages definition seen place ks ws) definition.patterns place 0 within
