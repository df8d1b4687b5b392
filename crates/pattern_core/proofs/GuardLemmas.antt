-- The conjuncts of a definition that suits may be evaluated where their patterns are filled.
use Rattle.std.proofs.Common.{◌≡◌, ◌∙◌, ℕ, zero, suc, ◌+◌, ◌-◌, ◌<◌, List, [], ◌∷◌, length, drop, get_or, map, slice_get, slice_index, true, ◌&&◌, Option, None, Some, refl, ap, sym, arith}
use Rattle.std.specs.Prelude.{◌==◌}
use Rattle.std.specs.List.{AllByRecursion, list_all}
use Rattle.std.proofs.lemmas.Bool.Decides.{nat_tests}
use Rattle.std.proofs.lemmas.List.{drop_more}
use Rattle.join_base.specs.declared.message.Message.{Message}
use Rattle.join_base.specs.declared.message.Value.{Value}
use Rattle.join_base.specs.declared.message.Sort.{Sort}
use Rattle.guard_eval.specs.Meaning.{Assignment, Need, recorded_message, number_at, is_slot_filled, is_filled, is_of_sort, has_sort}
use Rattle.guard_eval.specs.Ready.{AreReady, HavePlaces, IsReady}
use Rattle.guard_eval.proofs.ReadyLemmas.{each_at, recorded_message-recorded}
use Rattle.guard_eval.proofs.ExtendLemmas.{both_true}
use Rattle.pattern_core.specs.Matches.{is_of_kind, is_full}
use Rattle.pattern_core.specs.Suits.{IsRecorded, SlotsSuit, KindHas, NeedSuits}
use Rattle.pattern_core.proofs.SuitsLemmas.{length-SlotsSuit}

-- the first of the items that are left, and the others
pub left_of : {X Y : Type 0} (f : X → Y) (xs : List X) (i : ℕ) (x : X) → i < length xs → x ≡ get_or xs i x → map f (drop i xs) ≡ f x ∷ map f (drop (i + 1) xs)
left_of {X} f xs i x within is = ap (map f) (drop_more xs i x within) ∙ ap (λ (y : X). f y ∷ map f (drop (i + 1) xs)) (sym is)

same_number : (a b : ℕ) → (a == b) ≡ true → a ≡ b
same_number a b h = grind (arith, nat_tests)

-- the number of a filled pattern
pub record Fills (messages : List Message) (kinds : List ℕ) (slots : Assignment) (p : ℕ) : Type 0 where
  pub number : ℕ
  pub filled : slice_get slots p ≡ Some (Some number)
  pub recorded : IsRecorded messages number
  pub of_kind : is_of_kind (recorded_message messages number) (slice_index kinds p) ≡ true

-- a value of the type at the field of a message
pub record HasValue (messages : List Message) (number field : ℕ) (type : Sort) : Type 0 where
  pub message : Message
  pub value : Value
  pub recorded : slice_get messages (number - 1) ≡ Some message
  pub has : slice_get message.fields field ≡ Some value
  pub of_type : is_of_sort type value ≡ true

module _ (messages : List Message) where
  pub have_places : (kinds : List ℕ) (slots : Assignment) (needs : List Need) → length slots ≡ length kinds → AllByRecursion (NeedSuits messages kinds) needs → HavePlaces slots needs
  have_places kinds slots [] same suits = tt
  have_places kinds slots (need ∷ needs) same suits = let within = suits.0.0 in (omega arith, have_places kinds slots needs same suits.1)

  fills : (kinds : List ℕ) (slots : Assignment) (p : ℕ) → SlotsSuit messages kinds slots → is_slot_filled (number_at slots p) ≡ true → Fills messages kinds slots p
  fills [] [] p suits filled = absurd cc
  fills [] (slot ∷ slots) p suits filled = absurd suits
  fills (kind ∷ kinds) [] p suits filled = absurd suits
  fills (kind ∷ kinds) (None ∷ slots) zero suits filled = absurd cc
  fills (kind ∷ kinds) (None ∷ slots) (suc p) suits filled =
      let r = fills kinds slots p suits filled in record { number = r.number; filled = r.filled; recorded = r.recorded; of_kind = r.of_kind }
  fills (kind ∷ kinds) (Some n ∷ slots) zero suits filled = record { number = n; filled = refl; recorded = suits.0; of_kind = suits.1 }
  fills (kind ∷ kinds) (Some n ∷ slots) (suc p) suits filled =
      let r = fills kinds slots p suits.3 filled in record { number = r.number; filled = r.filled; recorded = r.recorded; of_kind = r.of_kind }

  value_of : (type : Sort) (o : Option Value) → has_sort type o ≡ true → (v : Value) × (o ≡ Some v) × (is_of_sort type v ≡ true)
  value_of type None h = absurd cc
  value_of type (Some v) h = (v, refl, h)

  message_of : (o : Option Message) (kind : ℕ) → is_of_kind o kind ≡ true → (m : Message) × (o ≡ Some m) × (m.kind ≡ kind)
  message_of None kind h = absurd cc
  message_of (Some m) kind h = (m, refl, same_number m.kind kind h)

  -- a recorded message of the kind has a value of the type at the field
  value_at_number : (number kind field : ℕ) (type : Sort) → IsRecorded messages number → is_of_kind (recorded_message messages number) kind ≡ true → KindHas messages kind field type → HasValue messages number field type
  value_at_number number kind field type recorded of_kind has =
      let found = message_of (slice_get messages (number - 1)) kind (ap (λ (o : Option Message). is_of_kind o kind) (sym (recorded_message-recorded messages number recorded.0)) ∙ of_kind) in
      let typed = each_at (λ (m : Message). m.kind ≡ kind → has_sort type (slice_get m.fields field) ≡ true) messages (number - 1) found.0 found.1 has found.2 in
      let value = value_of type (slice_get found.0.fields field) typed in
      record { message = found.0; value = value.0; recorded = found.1; has = value.1; of_type = value.2 }

  ready_one : (kinds : List ℕ) (slots : Assignment) (need : Need) → SlotsSuit messages kinds slots → NeedSuits messages kinds need → is_filled slots need ≡ true → IsReady messages slots need.0 need.1
  ready_one kinds slots need suits needs filled =
      let f = fills kinds slots need.0.pattern suits filled in
      let v = value_at_number f.number (slice_index kinds need.0.pattern) need.0.field need.1 f.recorded f.of_kind needs.1 in
      record {
        number = f.number;
        message = v.message;
        value = v.value;
        filled = f.filled;
        above_zero = f.recorded.0;
        recorded = v.recorded;
        has = v.has;
        of_type = v.of_type;
      }

  -- what evaluation asks for is there where the patterns are filled
  pub ready_where_filled : (kinds : List ℕ) (slots : Assignment) (needs : List Need) → SlotsSuit messages kinds slots → AllByRecursion (NeedSuits messages kinds) needs → list_all (is_filled slots) needs ≡ true → AreReady messages slots needs
  ready_where_filled kinds slots [] suits needs filled = tt
  ready_where_filled kinds slots (need ∷ more) suits needs filled =
      let parts = both_true (is_filled slots need) (list_all (is_filled slots) more) filled in
      (ready_one kinds slots need suits needs.0 parts.0, ready_where_filled kinds slots more suits needs.1 parts.1)

-- a pattern of a full assignment is filled
full_at : (slots : Assignment) (p : ℕ) → p < length slots → is_full slots ≡ true → is_slot_filled (number_at slots p) ≡ true
full_at [] p within full = absurd (omega arith)
full_at (slot ∷ slots) zero within full = (both_true (is_slot_filled slot) (is_full slots) full).0
full_at (slot ∷ slots) (suc p) within full = full_at slots p (omega arith) (both_true (is_slot_filled slot) (is_full slots) full).1

filled_where_full : (slots : Assignment) (needs : List Need) → HavePlaces slots needs → is_full slots ≡ true → list_all (is_filled slots) needs ≡ true
filled_where_full slots [] places full = refl
filled_where_full slots (need ∷ needs) places full =
    let here = full_at slots need.0.pattern places.0 full in
    (λ i. here i && list_all (is_filled slots) needs) ∙ filled_where_full slots needs places.1 full

-- what evaluation asks for is there where no pattern is empty
pub ready_where_full : (messages : List Message) (kinds : List ℕ) (slots : Assignment) (needs : List Need) → SlotsSuit messages kinds slots → AllByRecursion (NeedSuits messages kinds) needs → is_full slots ≡ true → AreReady messages slots needs
ready_where_full messages kinds slots needs suits each full =
    ready_where_filled messages kinds slots needs suits each
    (filled_where_full slots needs (have_places messages kinds slots needs (length-SlotsSuit messages kinds slots suits) each) full)
