-- Each way is listed: pattern by pattern a part of it is.
use Rattle.std.proofs.Common.{◌≡◌, ◌⊎◌, inl, inr, ◌∙◌, ℕ, zero, suc, ◌+◌, ◌≤◌, ◌<◌, List, [], ◌∷◌, ◌++◌, length, replicate, slice_get, slice_index, slice_set, Bool, true, false, not, ◌&&◌, ◌||◌, Option, Some, None, refl, ap, sym, subst, arith}
use Rattle.std.specs.Prelude.{◌==◌, if◌then◌else◌}
use Rattle.std.specs.List.{flat_map}
use Rattle.std.proofs.lemmas.Bool.Decides.{nat_tests}
use Rattle.std.proofs.lemmas.List.{length-set, length-replicate}
use Rattle.join_base.specs.declared.message.Message.{Message}
use Rattle.guard_eval.specs.Meaning.{Assignment, recorded_message, number_at, is_slot_filled}
use Rattle.guard_eval.proofs.ExtendLemmas.{Extends}
use Rattle.pattern_core.specs.declared.definition.Definition.{Definition}
use Rattle.pattern_core.specs.Assigns.{Assigns}
use Rattle.pattern_core.specs.Matches.{is_of_kind, holds_number, is_agreeable, slot_is}
use Rattle.pattern_core.specs.Members.{IsIn}
use Rattle.pattern_core.proofs.MembersLemmas.{IsIn-append_left, IsIn-append_right, IsIn-flat_map}
use Rattle.row_screens.proofs.SlotsLemmas.{agreeable_below}
use Rattle.waiting_reasons.specs.Ways.{alone_at, grown, grown_at, longer, longer_at, may_stand, no_numbers, ways}
use Rattle.waiting_reasons.proofs.SoundLemmas.{length-assigns}
use Rattle.waiting_reasons.proofs.WaysLemmas.{may_from}

-- ---- tests

clash : (b : Bool) → b ≡ true → b ≡ false → ⊥
clash true p q = cc
clash false p q = cc

same_number : (n m : ℕ) → (n == m) ≡ true → n ≡ m
same_number n m h = grind (arith, nat_tests)

other_number : (n m : ℕ) → (n == m) ≡ false → n ≡ m → ⊥
other_number n m h e = grind (arith, nat_tests)

same_true : (n : ℕ) → (n == n) ≡ true
same_true n = grind (arith, nat_tests)

less_of : (p i : ℕ) → p < i + 1 → (i == p) ≡ false → p < i
less_of p i l h = grind (arith, nat_tests)

greater : (p q : ℕ) → p ≤ q → (p == q) ≡ false → p + 1 ≤ q
greater p q l h = grind (arith, nat_tests)

-- ---- the number at a pattern

none_number : (n p : ℕ) → number_at (replicate n None) p ≡ None
none_number zero p = refl
none_number (suc n) zero = refl
none_number (suc n) (suc p) = none_number n p

none_holds : (n number : ℕ) → holds_number (replicate n None) number ≡ false
none_holds zero number = refl
none_holds (suc n) number = none_holds n number

set_same : (slots : Assignment) (p : ℕ) (slot : Option ℕ) → p < length slots → number_at (slice_set slots p slot) p ≡ slot
set_same [] p slot l = absurd (omega (arith, l))
set_same (first ∷ slots) zero slot l = refl
set_same (first ∷ slots) (suc p) slot l = set_same slots p slot (omega (arith, l))

set_other : (slots : Assignment) (p q : ℕ) (slot : Option ℕ) → (p ≡ q → ⊥) → number_at (slice_set slots p slot) q ≡ number_at slots q
set_other [] p q slot apart = refl
set_other (first ∷ slots) zero zero slot apart = absurd (apart refl)
set_other (first ∷ slots) zero (suc q) slot apart = refl
set_other (first ∷ slots) (suc p) zero slot apart = refl
set_other (first ∷ slots) (suc p) (suc q) slot apart = set_other slots p q slot (λ e. apart (ap suc e))

same_slots : (xs ys : Assignment) → length xs ≡ length ys → ((p : ℕ) → p < length xs → number_at xs p ≡ number_at ys p) → xs ≡ ys
same_slots [] [] l h = refl
same_slots [] (y ∷ ys) l h = absurd (omega (arith, l))
same_slots (x ∷ xs) [] l h = absurd (omega (arith, l))
same_slots (x ∷ xs) (y ∷ ys) l h =
    let here = h 0 (omega arith) in
    let later = same_slots xs ys (omega (arith, l)) (λ p q. h (suc p) (omega (arith, q))) in
    λ i. here i ∷ later i

-- a number that is held stands at some pattern
slot_some : (n : ℕ) (slot : Option ℕ) → slot_is n slot ≡ true → slot ≡ Some n
slot_some n None h = absurd cc
slot_some n (Some m) h = ap (λ (k : ℕ). Some k) (sym (same_number n m h))

held_by : (n : ℕ) (slot : Option ℕ) (slots : Assignment) (b : Bool) → slot_is n slot ≡ b → (holds_number slots n ≡ true → (p : ℕ) × (number_at slots p ≡ Some n)) → (b || holds_number slots n) ≡ true → (p : ℕ) × (number_at (slot ∷ slots) p ≡ Some n)
held_by n slot slots true e later h = (0, slot_some n slot e)
held_by n slot slots false e later h = let r = later h in (suc r.0, r.1)

held_at : (slots : Assignment) (n : ℕ) → holds_number slots n ≡ true → (p : ℕ) × (number_at slots p ≡ Some n)
held_at [] n h = absurd cc
held_at (slot ∷ slots) n h = held_by n slot slots (slot_is n slot) refl (held_at slots n) h

or_first : (a b : Bool) → a ≡ true → (a || b) ≡ true
or_first true b e = refl
or_first false b e = absurd cc

or_second : (a b : Bool) → b ≡ true → (a || b) ≡ true
or_second true b e = refl
or_second false b e = e

at_held : (slots : Assignment) (p n : ℕ) → number_at slots p ≡ Some n → holds_number slots n ≡ true
at_held [] p n e = absurd cc
at_held (slot ∷ slots) zero n e = or_first (slot_is n slot) (holds_number slots n) (ap (slot_is n) e ∙ same_true n)
at_held (slot ∷ slots) (suc p) n e = or_second (slot_is n slot) (holds_number slots n) (at_held slots p n e)

-- ---- the way that is to be listed

module _ (messages : List Message) (seen : List ℕ) where
  record Numbered (kinds : List ℕ) (p n : ℕ) : Type 0 where
    pub is_live : IsIn n seen
    pub of_kind : is_of_kind (recorded_message messages n) (slice_index kinds p) ≡ true
    pub within : p < length kinds

  numbered : (kinds : List ℕ) (slots : Assignment) → Assigns messages seen kinds slots → (p n : ℕ) → number_at slots p ≡ Some n → Numbered kinds p n
  numbered [] [] a p n e = absurd cc
  numbered [] (slot ∷ slots) a p n e = absurd a
  numbered (kind ∷ kinds) [] a p n e = absurd a
  numbered (kind ∷ kinds) (None ∷ slots) a zero n e = absurd cc
  numbered (kind ∷ kinds) (Some m ∷ slots) a zero n e =
      let same : m ≡ n = cc in
      record {
        is_live = subst (λ (k : ℕ). IsIn k seen) same a.0.is_live;
        of_kind = subst (λ (k : ℕ). is_of_kind (recorded_message messages k) kind ≡ true) same a.0.of_kind;
        within = omega arith;
      }
  numbered (kind ∷ kinds) (None ∷ slots) a (suc p) n e =
      let r = numbered kinds slots a p n e in record { is_live = r.is_live; of_kind = r.of_kind; within = omega (arith, r.within) }
  numbered (kind ∷ kinds) (Some m ∷ slots) a (suc p) n e =
      let r = numbered kinds slots a.1 p n e in record { is_live = r.is_live; of_kind = r.of_kind; within = omega (arith, r.within) }

  -- no two patterns have one number
  one_place : (kinds : List ℕ) (slots : Assignment) → Assigns messages seen kinds slots → (p q n : ℕ) → number_at slots p ≡ Some n → number_at slots q ≡ Some n → p ≡ q
  one_place [] [] a p q n e f = absurd cc
  one_place [] (slot ∷ slots) a p q n e f = absurd a
  one_place (kind ∷ kinds) [] a p q n e f = absurd a
  one_place (kind ∷ kinds) (slot ∷ slots) a zero zero n e f = refl
  one_place (kind ∷ kinds) (None ∷ slots) a zero (suc q) n e f = absurd cc
  one_place (kind ∷ kinds) (Some m ∷ slots) a zero (suc q) n e f =
      let same : m ≡ n = cc in
      absurd (clash (holds_number slots m) (ap (holds_number slots) same ∙ at_held slots q n f) a.0.apart)
  one_place (kind ∷ kinds) (None ∷ slots) a (suc p) zero n e f = absurd cc
  one_place (kind ∷ kinds) (Some m ∷ slots) a (suc p) zero n e f =
      let same : m ≡ n = cc in
      absurd (clash (holds_number slots m) (ap (holds_number slots) same ∙ at_held slots p n e) a.0.apart)
  one_place (kind ∷ kinds) (None ∷ slots) a (suc p) (suc q) n e f = ap suc (one_place kinds slots a p q n e f)
  one_place (kind ∷ kinds) (Some m ∷ slots) a (suc p) (suc q) n e f = ap suc (one_place kinds slots a.1 p q n e f)

in_longer : (messages : List Message) (definition : Definition) (slots : Assignment) (place n : ℕ) → may_stand messages definition slots place n ≡ true → IsIn (slice_set slots place (Some n)) (longer messages definition slots place n)
in_longer messages definition slots place n may =
    let x : Assignment = slice_set slots place (Some n) in
    let In : Bool → Type 0 = λ b. IsIn x (if b then x ∷ [] else []) in
    subst In (sym may) (inl refl)

module _ (messages : List Message) (definition : Definition) (seen : List ℕ) (other : Assignment) (assigns : Assigns messages seen definition.patterns other) (agreeable : is_agreeable messages definition.conjuncts other ≡ true) where
  whole : length other ≡ length definition.patterns
  whole = length-assigns messages seen definition.patterns other assigns

  not_filled : is_slot_filled None ≡ true → ⊥
  not_filled e = cc

  -- with a number of it, what it extends is extended too
  extends_with : (slots : Assignment) (i m : ℕ) → i < length slots → Extends slots other → number_at other i ≡ Some m → Extends (slice_set slots i (Some m)) other
  extends_with slots i m l extends at p filled = by (i == p) refl
    where
      by : (b : Bool) → (i == p) ≡ b → number_at other p ≡ number_at (slice_set slots i (Some m)) p
      by true e =
          subst (λ (k : ℕ). number_at other k ≡ number_at (slice_set slots i (Some m)) k) (same_number i p e) (at ∙ sym (set_same slots i (Some m) l))
      by false e =
          let there = set_other slots i p (Some m) (other_number i p e) in
          extends p (sym (ap is_slot_filled there) ∙ filled) ∙ sym there

  -- a part of it, whole up to a place
  record Part (place : ℕ) (slots : Assignment) : Type 0 where
    pub count : length slots ≡ length other
    pub below : (p : ℕ) → p < place → number_at slots p ≡ number_at other p
    pub each : (p : ℕ) → (number_at slots p ≡ number_at other p) ⊎ (number_at slots p ≡ None)

  part_extends : (place : ℕ) (slots : Assignment) → Part place slots → Extends slots other
  part_extends place slots part p filled =
      elim (part.each p) [
        | inl e ↦ sym e
        | inr none ↦ absurd (not_filled (sym (ap is_slot_filled none) ∙ filled))
      ]

  -- a part that has the number of the next place, or that has none there as it has
  part_same : (place : ℕ) (slots : Assignment) → Part place slots → number_at slots place ≡ number_at other place → Part (place + 1) slots
  part_same place slots part here = record {
    count = part.count;
    below = λ p l. by p l (place == p) refl;
    each = part.each;
  }
    where
      by : (p : ℕ) → p < place + 1 → (b : Bool) → (place == p) ≡ b → number_at slots p ≡ number_at other p
      by p l true e = subst (λ (k : ℕ). number_at slots k ≡ number_at other k) (same_number place p e) here
      by p l false e = part.below p (less_of p place l e)

  part_with : (place m : ℕ) (slots : Assignment) → Part place slots → place < length slots → number_at other place ≡ Some m → Part (place + 1) (slice_set slots place (Some m))
  part_with place m slots part within at = record {
    count = length-set slots place (Some m) ∙ part.count;
    below = λ p l. below_by p l (place == p) refl;
    each = λ p. each_by p (place == p) refl;
  }
    where
      here : (p : ℕ) → (place == p) ≡ true → number_at (slice_set slots place (Some m)) p ≡ number_at other p
      here p e = subst (λ (k : ℕ). number_at (slice_set slots place (Some m)) k ≡ number_at other k) (same_number place p e) (set_same slots place (Some m) within ∙ sym at)

      below_by : (p : ℕ) → p < place + 1 → (b : Bool) → (place == p) ≡ b → number_at (slice_set slots place (Some m)) p ≡ number_at other p
      below_by p l true e = here p e
      below_by p l false e = set_other slots place p (Some m) (other_number place p e) ∙ part.below p (less_of p place l e)

      each_by : (p : ℕ) (b : Bool) → (place == p) ≡ b → (number_at (slice_set slots place (Some m)) p ≡ number_at other p) ⊎ (number_at (slice_set slots place (Some m)) p ≡ None)
      each_by p true e = inl (here p e)
      each_by p false e =
          let there = set_other slots place p (Some m) (other_number place p e) in
          elim (part.each p) [ inl same ↦ inl (there ∙ same) | inr none ↦ inr (there ∙ none) ]

  -- its number may stand at an empty pattern of a part
  part_may : (place m : ℕ) (slots : Assignment) → Part place slots → place < length slots → number_at slots place ≡ None → number_at other place ≡ Some m → may_stand messages definition slots place m ≡ true
  part_may place m slots part within none at =
      may_from messages definition slots place m record {
        of_kind = (numbered messages seen definition.patterns other assigns place m at).of_kind;
        empty = ap is_slot_filled none;
        apart = lacks (holds_number slots m) refl;
        agreeable = agreeable_below messages (slice_set slots place (Some m)) other (extends_with slots place m within (part_extends place slots part) at) definition.conjuncts agreeable;
      }
    where
      lacks : (b : Bool) → holds_number slots m ≡ b → holds_number slots m ≡ false
      lacks false e = e
      lacks true e =
          let held = held_at slots m e in
          let there : number_at other held.0 ≡ Some m = part_extends place slots part held.0 (ap is_slot_filled held.1) ∙ held.1 in
          let same = one_place messages seen definition.patterns other assigns held.0 place m there at in
          absurd (not_filled (sym (ap is_slot_filled (ap (number_at slots) same ∙ none)) ∙ ap is_slot_filled held.1))

  -- of a part that is listed a longer one is
  record Next (place : ℕ) (ws : List Assignment) : Type 0 where
    pub slots : Assignment
    pub listed : IsIn slots (grown messages definition seen place ws)
    pub part : Part (place + 1) slots

  next : (place : ℕ) (ws : List Assignment) (slots : Assignment) → place < length definition.patterns → IsIn slots ws → Part place slots → Next place ws
  next place ws slots within listed part = elim (part.each place) [ inl same ↦ stays same | inr none ↦ by (number_at other place) refl none ]
    where
      inside : place < length slots
      inside = let count = part.count in omega (arith, within, count, whole)

      stays : number_at slots place ≡ number_at other place → Next place ws
      stays same = record {
        slots = slots;
        listed = IsIn-append_left slots ws (flat_map (longer_at messages definition seen place) ws) listed;
        part = part_same place slots part same;
      }

      by : (o : Option ℕ) → number_at other place ≡ o → number_at slots place ≡ None → Next place ws
      by None e none = stays (none ∙ sym e)
      by (Some m) e none =
          let more : Assignment = slice_set slots place (Some m) in
          let may = part_may place m slots part inside none e in
          let among = (numbered messages seen definition.patterns other assigns place m e).is_live in
          let here = IsIn-flat_map (longer messages definition slots place) m more seen among (in_longer messages definition slots place m may) in
          record {
            slots = more;
            listed = IsIn-append_right more ws (flat_map (longer_at messages definition seen place) ws) (IsIn-flat_map (longer_at messages definition seen place) slots more ws listed here);
            part = part_with place m slots part inside e;
          }

  complete : (kinds : List ℕ) (place : ℕ) (ws : List Assignment) (slots : Assignment) → place + length kinds ≡ length definition.patterns → IsIn slots ws → Part place slots → IsIn other (grown_at messages definition seen place kinds ws)
  complete [] place ws slots many listed part =
      let count = part.count in
      let same = same_slots slots other count (λ p l. part.below p (omega (arith, l, count, whole, many))) in
      subst (λ (s : Assignment). IsIn s ws) same listed
  complete (kind ∷ kinds) place ws slots many listed part =
      let more = next place ws slots (omega (arith, many)) listed part in
      complete kinds (place + 1) (grown messages definition seen place ws) more.slots (omega (arith, many)) more.listed more.part

  -- ---- from the number alone on

  module _ (number q : ℕ) (at : number_at other q ≡ Some number) where
    none_part : Part 0 (no_numbers definition)
    none_part = record {
      count = length-replicate {A = Option ℕ} (length definition.patterns) None ∙ sym whole;
      below = λ p l. absurd (omega (arith, l));
      each = λ p. inr (none_number (length definition.patterns) p);
    }

    within_none : q < length (no_numbers definition)
    within_none =
        let here = (numbered messages seen definition.patterns other assigns q number at).within in
        let count = length-replicate {A = Option ℕ} (length definition.patterns) None in
        omega (arith, here, count)

    first_part : Part 0 (slice_set (no_numbers definition) q (Some number))
    first_part = record {
      count = length-set (no_numbers definition) q (Some number) ∙ none_part.count;
      below = λ p l. absurd (omega (arith, l));
      each = λ p. by p (q == p) refl;
    }
      where
        by : (p : ℕ) (b : Bool) → (q == p) ≡ b → (number_at (slice_set (no_numbers definition) q (Some number)) p ≡ number_at other p) ⊎ (number_at (slice_set (no_numbers definition) q (Some number)) p ≡ None)
        by p true e =
            inl (subst (λ (k : ℕ). number_at (slice_set (no_numbers definition) q (Some number)) k ≡ number_at other k) (same_number q p e) (set_same (no_numbers definition) q (Some number) within_none ∙ sym at))
        by p false e = inr (set_other (no_numbers definition) q p (Some number) (other_number q p e) ∙ none_number (length definition.patterns) p)

    first_may : may_stand messages definition (no_numbers definition) q number ≡ true
    first_may =
        may_from messages definition (no_numbers definition) q number record {
          of_kind = (numbered messages seen definition.patterns other assigns q number at).of_kind;
          empty = ap is_slot_filled (none_number (length definition.patterns) q);
          apart = none_holds (length definition.patterns) number;
          agreeable =
              agreeable_below messages (slice_set (no_numbers definition) q (Some number)) other
              (extends_with (no_numbers definition) q number within_none (part_extends 0 (no_numbers definition) none_part) at) definition.conjuncts agreeable;
        }

    in_alone : (kinds : List ℕ) (place : ℕ) → place ≤ q → q < place + length kinds → IsIn (slice_set (no_numbers definition) q (Some number)) (alone_at messages definition number place kinds)
    in_alone [] place l m = absurd (omega (arith, l, m))
    in_alone (kind ∷ kinds) place l m = alone_by kinds place l m (place == q) refl (in_alone kinds (place + 1))
      where
        alone_by : (kinds : List ℕ) (place : ℕ) → place ≤ q → q < place + suc (length kinds) → (b : Bool) → (place == q) ≡ b
            → (place + 1 ≤ q → q < place + 1 + length kinds → IsIn (slice_set (no_numbers definition) q (Some number)) (alone_at messages definition number (place + 1) kinds))
            → IsIn (slice_set (no_numbers definition) q (Some number)) (longer messages definition (no_numbers definition) place number ++ alone_at messages definition number (place + 1) kinds)
        alone_by kinds place l m true e later =
            let here = in_longer messages definition (no_numbers definition) q number first_may in
            let x : Assignment = slice_set (no_numbers definition) q (Some number) in
            IsIn-append_left x (longer messages definition (no_numbers definition) place number) (alone_at messages definition number (place + 1) kinds)
            (subst (λ (k : ℕ). IsIn x (longer messages definition (no_numbers definition) k number)) (sym (same_number place q e)) here)
        alone_by kinds place l m false e later =
            let x : Assignment = slice_set (no_numbers definition) q (Some number) in
            let above : place + 1 ≤ q = greater place q l e in
            IsIn-append_right x (longer messages definition (no_numbers definition) place number) (alone_at messages definition number (place + 1) kinds) (later above (omega (arith, m)))

    listed_from : IsIn other (ways messages definition seen number)
    listed_from =
        let here = (numbered messages seen definition.patterns other assigns q number at).within in
        complete definition.patterns 0 (alone_at messages definition number 0 definition.patterns) (slice_set (no_numbers definition) q (Some number)) (omega arith) (in_alone definition.patterns 0 (omega arith) (omega (arith, here))) first_part

  -- a way that has the number is listed
  pub way_listed : (number : ℕ) → holds_number other number ≡ true → IsIn other (ways messages definition seen number)
  way_listed number has = let held = held_at other number has in listed_from number held.0 held.1
