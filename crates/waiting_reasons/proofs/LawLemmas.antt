-- The reasons are true: what is listed is all that there is, and the first of the fullest is one that none is fuller than.
use Rattle.std.proofs.Common.{◌≡◌, ◌⊎◌, inl, inr, ◌∙◌, ℕ, zero, suc, ◌+◌, ◌≤◌, List, [], ◌∷◌, length, slice_get, slice_index, slice_set, Bool, true, false, not, ◌&&◌, Option, Some, None, refl, ap, sym, subst, arith}
use Rattle.std.specs.Prelude.{if◌then◌else◌, nat_lt}
use Rattle.std.specs.List.{AllByRecursion}
use Rattle.std.proofs.lemmas.Bool.Decides.{nat_tests}
use Rattle.join_base.specs.declared.message.Message.{Message}
use Rattle.join_base.specs.Taken.{contains_number}
use Rattle.guard_eval.specs.Condition.{Condition}
use Rattle.guard_eval.specs.Meaning.{Assignment, is_decided, is_true}
use Rattle.guard_eval.proofs.ExtendLemmas.{both_true}
use Rattle.pattern_core.specs.declared.definition.Definition.{Definition}
use Rattle.pattern_core.specs.Assigns.{MayTake}
use Rattle.pattern_core.specs.Matches.{is_agreeable}
use Rattle.pattern_core.specs.Members.{IsIn}
use Rattle.pattern_core.specs.Window.{seen_of}
use Rattle.waiting_reasons.specs.declared.reason.Reason.{Reason}
use Rattle.waiting_reasons.specs.declared.reason.Reason.TheVariants.{Passed, Misfits, Fullest}
use Rattle.waiting_reasons.specs.Guards.{first_false}
use Rattle.waiting_reasons.specs.Law.{FurtherAreHindered, IsFalse, IsHindered, IsReason, IsWay, ReasonsAreTrue}
use Rattle.waiting_reasons.specs.Ways.{filled_count, fuller, fullest, reason_by, reason_of, slot_count, ways}
use Rattle.waiting_reasons.proofs.BestLemmas.{found_has}
use Rattle.waiting_reasons.proofs.GuardLemmas.{agreeable_by_none}
use Rattle.waiting_reasons.proofs.SlotLemmas.{not_of}
use Rattle.waiting_reasons.proofs.SoundLemmas.{HasIt, assigns_further, holds_stays, in_from_contains, ways_have}
use Rattle.waiting_reasons.proofs.WholeLemmas.{way_listed}

-- ---- the first of the fullest

abbrev IsAsFull : Option Assignment → Assignment → Type 0
IsAsFull None other = ⊥
IsAsFull (Some best) other = filled_count other ≤ filled_count best

below_best : (a b c : ℕ) → nat_lt a b ≡ true → a ≡ c → c ≤ b
below_best a b c h e = grind (arith, nat_tests)

not_below : (a b c : ℕ) → nat_lt a b ≡ false → c ≤ b → c ≤ a
not_below a b c h l = grind (arith, nat_tests)

as_full_first : (w other : Assignment) (best : Option Assignment) → w ≡ other → IsAsFull (fuller w best) other
as_full_first w other None e = omega (arith, ap filled_count e)
as_full_first w other (Some b) e = by (nat_lt (filled_count w) (filled_count b)) refl
  where
    by : (t : Bool) → nat_lt (filled_count w) (filled_count b) ≡ t → IsAsFull (if t then Some b else Some w) other
    by true less = below_best (filled_count w) (filled_count b) (filled_count other) less (ap filled_count e)
    by false less = omega (arith, ap filled_count e)

as_full_later : (w other : Assignment) (best : Option Assignment) → IsAsFull best other → IsAsFull (fuller w best) other
as_full_later w other None h = absurd h
as_full_later w other (Some b) h = by (nat_lt (filled_count w) (filled_count b)) refl
  where
    by : (t : Bool) → nat_lt (filled_count w) (filled_count b) ≡ t → IsAsFull (if t then Some b else Some w) other
    by true less = h
    by false less = not_below (filled_count w) (filled_count b) (filled_count other) less h

-- none of them is fuller
fullest_most : (ws : List Assignment) (other : Assignment) → IsIn other ws → IsAsFull (fullest ws) other
fullest_most [] other listed = absurd listed
fullest_most (w ∷ ws) other (inl e) = as_full_first w other (fullest ws) e
fullest_most (w ∷ ws) other (inr listed) = as_full_later w other (fullest ws) (fullest_most ws other listed)

-- ---- the reasons

module _ (messages : List Message) (left : List ℕ) (definition : Definition) (number : ℕ) where
  is_listed : (other : Assignment) → IsWay messages left definition number other → IsIn other (ways messages definition (seen_of definition (length messages) left) number)
  is_listed other way = way_listed messages definition (seen_of definition (length messages) left) other way.assigns way.agreeable number way.has

  is_way : (slots : Assignment) → HasIt messages definition (seen_of definition (length messages) left) number slots → IsWay messages left definition number slots
  is_way slots h = record { assigns = h.agrees.assigns; agreeable = h.agrees.agreeable; has = h.has }

  found : IsIn number (seen_of definition (length messages) left) → (best : Option Assignment) → fullest (ways messages definition (seen_of definition (length messages) left) number) ≡ best → IsReason messages left definition number (reason_by best)
  found among None e = λ slots way.
      let as_full = fullest_most (ways messages definition (seen_of definition (length messages) left) number) slots (is_listed slots way) in
      subst (λ (o : Option Assignment). IsAsFull o slots) e as_full
  found among (Some best) e =
      let all = ways_have messages definition (seen_of definition (length messages) left) number among in
      let here = found_has (HasIt messages definition (seen_of definition (length messages) left) number) (ways messages definition (seen_of definition (length messages) left) number) best all (sym e) in (
        is_way best here,
        λ other way. subst (λ (o : Option Assignment). IsAsFull o other) e (fullest_most (ways messages definition (seen_of definition (length messages) left) number) other (is_listed other way)),
      )

  reason_by_test : (b : Bool) → contains_number (seen_of definition (length messages) left) number ≡ b
      → IsReason messages left definition number (if b then reason_by (fullest (ways messages definition (seen_of definition (length messages) left) number)) else Passed)
  reason_by_test false e = e
  reason_by_test true e =
      found (in_from_contains (seen_of definition (length messages) left) number e) (fullest (ways messages definition (seen_of definition (length messages) left) number)) refl

pub reasons_are_true : ReasonsAreTrue
reasons_are_true messages left definition number = reason_by_test messages left definition number (contains_number (seen_of definition (length messages) left) number) refl

-- ---- those that wait are hindered

-- a number more
filled_further : (slots : Assignment) (p n : ℕ) → slice_get slots p ≡ Some None → filled_count (slice_set slots p (Some n)) ≡ filled_count slots + 1
filled_further [] p n e = absurd cc
filled_further (None ∷ slots) zero n e = omega arith
filled_further (Some m ∷ slots) zero n e = absurd cc
filled_further (slot ∷ slots) (suc p) n e = let later = filled_further slots p n e in omega (arith, later)

-- what is found is false
first_is_false : (messages : List Message) (slots : Assignment) (cs : List Condition) (c : Condition) → first_false messages slots cs ≡ Some c → IsIn c cs × (is_decided slots c ≡ true) × (is_true messages slots c ≡ false)
first_is_false messages slots [] c e = absurd cc
first_is_false messages slots (x ∷ cs) c e = by (is_decided slots x && not (is_true messages slots x)) refl (first_is_false messages slots cs c) e
  where
    by : (b : Bool) → (is_decided slots x && not (is_true messages slots x)) ≡ b → (first_false messages slots cs ≡ Some c → IsIn c cs × (is_decided slots c ≡ true) × (is_true messages slots c ≡ false))
        → (if b then Some x else first_false messages slots cs) ≡ Some c → IsIn c (x ∷ cs) × (is_decided slots c ≡ true) × (is_true messages slots c ≡ false)
    by true t later e =
        let same : x ≡ c = cc in
        let parts = both_true (is_decided slots x) (not (is_true messages slots x)) t in (
          inl same,
          subst (λ (y : Condition). is_decided slots y ≡ true) same parts.0,
          subst (λ (y : Condition). is_true messages slots y ≡ false) same (not_of (is_true messages slots x) parts.1),
        )
    by false t later e = let r = later e in (inr r.0, r.1, r.2)

module _ (messages : List Message) (left : List ℕ) (definition : Definition) (number : ℕ) (slots : Assignment) (place further : ℕ) (empty : slice_get slots place ≡ Some None)
    (may : MayTake messages (seen_of definition (length messages) left) (slice_index definition.patterns place) slots further) (reason : IsReason messages left definition number (Fullest slots)) where
  hindered_by : (found : Option Condition) → first_false messages (slice_set slots place (Some further)) definition.conjuncts ≡ found → IsHindered messages definition (slice_set slots place (Some further))
  hindered_by (Some c) e =
      let is = first_is_false messages (slice_set slots place (Some further)) definition.conjuncts c e in
      record { conjunct = c; found = e; is_false = record { among = is.0; decided = is.1; untrue = is.2 } }
  hindered_by None e =
      let way : IsWay messages left definition number (slice_set slots place (Some further)) = record {
        assigns = assigns_further messages (seen_of definition (length messages) left) definition.patterns slots place further reason.0.assigns empty may.is_live may.of_kind may.apart;
        agreeable = agreeable_by_none messages (slice_set slots place (Some further)) definition.conjuncts e;
        has = holds_stays slots place further number empty reason.0.has;
      } in
      let most = reason.1 (slice_set slots place (Some further)) way in
      absurd (omega (arith, most, filled_further slots place further empty))

pub further_are_hindered : FurtherAreHindered
further_are_hindered messages left definition number slots place further is empty may =
    let reason : IsReason messages left definition number (Fullest slots) = subst (λ (r : Reason). IsReason messages left definition number r) is (reasons_are_true messages left definition number) in
    hindered_by messages left definition number slots place further empty may reason (first_false messages (slice_set slots place (Some further)) definition.conjuncts) refl
