-- Each assignment that is listed is a way: of numbers that are seen, agreeable, and with the message.
use Rattle.std.proofs.Common.{◌≡◌, ◌∙◌, inl, inr, ℕ, zero, suc, ◌+◌, ◌≤◌, ◌<◌, List, [], ◌∷◌, length, replicate, slice_get, slice_index, slice_set, Bool, true, false, not, ◌&&◌, ◌||◌, Option, Some, None, refl, ap, sym, subst, arith}
use Rattle.std.specs.Prelude.{◌==◌}
use Rattle.std.specs.List.{AllByRecursion, list_any}
use Rattle.std.proofs.lemmas.Bool.{or_parts}
use Rattle.std.proofs.lemmas.Bool.Decides.{nat_tests}
use Rattle.join_base.specs.declared.message.Message.{Message}
use Rattle.join_base.specs.Taken.{contains_number}
use Rattle.guard_eval.specs.Condition.{Condition}
use Rattle.guard_eval.specs.Meaning.{Assignment, recorded_message}
use Rattle.pattern_core.specs.declared.definition.Definition.{Definition}
use Rattle.pattern_core.specs.Assigns.{Assigns, MayTake}
use Rattle.pattern_core.specs.Matches.{is_of_kind, holds_number, is_agreeable, slot_is}
use Rattle.pattern_core.specs.Members.{IsIn}
use Rattle.pattern_core.proofs.AgreeLemmas.{agreeable_empty}
use Rattle.waiting_reasons.specs.Ways.{alone_at, grown_at, no_numbers, ways}
use Rattle.waiting_reasons.proofs.SlotLemmas.{empty_there}
use Rattle.waiting_reasons.proofs.WaysLemmas.{Keeps, Stands, alone_have, grown_at_have}

-- ---- numbers that an assignment has

same_true : (n : ℕ) → (n == n) ≡ true
same_true n = grind (arith, nat_tests)

same_number : (n m : ℕ) → (n == m) ≡ true → n ≡ m
same_number n m h = grind (arith, nat_tests)

turned : (n m : ℕ) → (n == m) ≡ false → (m == n) ≡ false
turned n m h = grind (arith, nat_tests)

first_true : (a b : Bool) → a ≡ true → (a || b) ≡ true
first_true true b e = refl
first_true false b e = absurd cc

second_true : (a b : Bool) → b ≡ true → (a || b) ≡ true
second_true true b e = refl
second_true false b e = e

both_false : (a b : Bool) → a ≡ false → b ≡ false → (a || b) ≡ false
both_false true b e f = absurd cc
both_false false b e f = f

-- a number that was put at a pattern
pub holds_set : (slots : Assignment) (p n : ℕ) → p < length slots → holds_number (slice_set slots p (Some n)) n ≡ true
holds_set [] p n l = absurd (omega (arith, l))
holds_set (slot ∷ slots) zero n l = first_true (n == n) (holds_number slots n) (same_true n)
holds_set (slot ∷ slots) (suc p) n l = second_true (slot_is n slot) (holds_number (slice_set slots p (Some n)) n) (holds_set slots p n (omega (arith, l)))

stays_by : (n m p : ℕ) (slot : Option ℕ) (slots : Assignment) (b : Bool) → slot_is m slot ≡ b → (holds_number slots m ≡ true → holds_number (slice_set slots p (Some n)) m ≡ true) → (b || holds_number slots m) ≡ true
    → (slot_is m slot || holds_number (slice_set slots p (Some n)) m) ≡ true
stays_by n m p slot slots true same later h = first_true (slot_is m slot) (holds_number (slice_set slots p (Some n)) m) same
stays_by n m p slot slots false other later h = second_true (slot_is m slot) (holds_number (slice_set slots p (Some n)) m) (later h)

-- and one that was there before
pub holds_stays : (slots : Assignment) (p n m : ℕ) → slice_get slots p ≡ Some None → holds_number slots m ≡ true → holds_number (slice_set slots p (Some n)) m ≡ true
holds_stays [] p n m e h = absurd cc
holds_stays (None ∷ slots) zero n m e h = second_true (m == n) (holds_number slots m) h
holds_stays (Some k ∷ slots) zero n m e h = absurd cc
holds_stays (slot ∷ slots) (suc p) n m e h = stays_by n m p slot slots (slot_is m slot) refl (holds_stays slots p n m e) h

-- ---- assignments with a number more

apart_too : (slots : Assignment) (p n m : ℕ) → holds_number slots m ≡ false → (m == n) ≡ false → holds_number (slice_set slots p (Some n)) m ≡ false
apart_too [] p n m held other = held
apart_too (slot ∷ slots) zero n m held other = both_false (m == n) (holds_number slots m) other (or_parts (slot_is m slot) (holds_number slots m) held).1
apart_too (slot ∷ slots) (suc p) n m held other =
    let parts = or_parts (slot_is m slot) (holds_number slots m) held in
    both_false (slot_is m slot) (holds_number (slice_set slots p (Some n)) m) parts.0 (apart_too slots p n m parts.1 other)

module _ (messages : List Message) (seen : List ℕ) where
  pub assigns_none : (kinds : List ℕ) → Assigns messages seen kinds (replicate (length kinds) None)
  assigns_none [] = tt
  assigns_none (kind ∷ kinds) = assigns_none kinds

  pub length-assigns : (kinds : List ℕ) (slots : Assignment) → Assigns messages seen kinds slots → length slots ≡ length kinds
  length-assigns [] [] h = refl
  length-assigns [] (slot ∷ slots) h = absurd h
  length-assigns (kind ∷ kinds) [] h = absurd h
  length-assigns (kind ∷ kinds) (None ∷ slots) h = ap suc (length-assigns kinds slots h)
  length-assigns (kind ∷ kinds) (Some n ∷ slots) h = ap suc (length-assigns kinds slots h.1)

  pub assigns_further : (kinds : List ℕ) (slots : Assignment) (p n : ℕ) → Assigns messages seen kinds slots → slice_get slots p ≡ Some None → IsIn n seen → is_of_kind (recorded_message messages n) (slice_index kinds p) ≡ true → holds_number slots n ≡ false
      → Assigns messages seen kinds (slice_set slots p (Some n))
  assigns_further [] [] p n a e among kind apart = absurd cc
  assigns_further [] (slot ∷ slots) p n a e among kind apart = absurd a
  assigns_further (k ∷ kinds) [] p n a e among kind apart = absurd a
  assigns_further (k ∷ kinds) (None ∷ slots) zero n a e among kind apart = (record { is_live = among; of_kind = kind; apart = apart }, a)
  assigns_further (k ∷ kinds) (Some m ∷ slots) zero n a e among kind apart = absurd cc
  assigns_further (k ∷ kinds) (None ∷ slots) (suc p) n a e among kind apart = assigns_further kinds slots p n a e among kind apart
  assigns_further (k ∷ kinds) (Some m ∷ slots) (suc p) n a e among kind apart =
      let parts = or_parts (n == m) (holds_number slots n) apart in (
        record { is_live = a.0.is_live; of_kind = a.0.of_kind; apart = apart_too slots p n m a.0.apart (turned n m parts.0) },
        assigns_further kinds slots p n a.1 e among kind parts.1,
      )

-- ---- all that are listed

module _ (messages : List Message) (definition : Definition) (seen : List ℕ) (number : ℕ) where
  -- an agreeable assignment
  pub record IsAgreeing (slots : Assignment) : Type 0 where
    pub assigns : Assigns messages seen definition.patterns slots
    pub agreeable : is_agreeable messages definition.conjuncts slots ≡ true

  -- that has the number
  pub record HasIt (slots : Assignment) : Type 0 where
    pub agrees : IsAgreeing slots
    pub has : holds_number slots number ≡ true

  empty_of_stands : (slots : Assignment) (place n : ℕ) → IsAgreeing slots → place < length definition.patterns → Stands messages definition slots place n → slice_get slots place ≡ Some None
  empty_of_stands slots place n a within s =
      let count = length-assigns messages seen definition.patterns slots a.assigns in
      empty_there slots place (omega (arith, within, count)) s.empty

  further_agrees : (slots : Assignment) (place n : ℕ) → IsAgreeing slots → place < length definition.patterns → IsIn n seen → Stands messages definition slots place n → IsAgreeing (slice_set slots place (Some n))
  further_agrees slots place n a within among s = record {
    assigns = assigns_further messages seen definition.patterns slots place n a.assigns (empty_of_stands slots place n a within s) among s.of_kind s.apart;
    agreeable = s.agreeable;
  }

  has_keeps : Keeps messages definition seen HasIt
  has_keeps = record {
    further = λ slots place n h within among s. record {
      agrees = further_agrees slots place n h.agrees within among s;
      has = holds_stays slots place n number (empty_of_stands slots place n h.agrees within s) h.has;
    };
  }

  none_agrees : IsAgreeing (no_numbers definition)
  none_agrees = record {
    assigns = assigns_none messages seen definition.patterns;
    agreeable = agreeable_empty messages definition.conjuncts (length definition.patterns);
  }

  starts : IsIn number seen → (place : ℕ) → place < length definition.patterns → Stands messages definition (no_numbers definition) place number → HasIt (slice_set (no_numbers definition) place (Some number))
  starts among place within s =
      let count = length-assigns messages seen definition.patterns (no_numbers definition) none_agrees.assigns in
      record {
        agrees = further_agrees (no_numbers definition) place number none_agrees within among s;
        has = holds_set (no_numbers definition) place number (omega (arith, within, count));
      }

  -- each that is listed has it
  pub ways_have : IsIn number seen → AllByRecursion HasIt (ways messages definition seen number)
  ways_have among =
      grown_at_have messages definition seen HasIt has_keeps 0 definition.patterns (alone_at messages definition number 0 definition.patterns) (omega arith)
      (alone_have messages definition HasIt number (starts among) 0 definition.patterns (omega arith))

in_by : (n m : ℕ) (ns : List ℕ) (b : Bool) → (n == m) ≡ b → (contains_number ns n ≡ true → IsIn n ns) → (b || contains_number ns n) ≡ true → IsIn n (m ∷ ns)
in_by n m ns true e later h = inl (sym (same_number n m e))
in_by n m ns false e later h = inr (later h)

-- a number that is contained is in the list
pub in_from_contains : (ns : List ℕ) (n : ℕ) → contains_number ns n ≡ true → IsIn n ns
in_from_contains [] n h = absurd cc
in_from_contains (m ∷ ns) n h = in_by n m ns (n == m) refl (in_from_contains ns n) h
