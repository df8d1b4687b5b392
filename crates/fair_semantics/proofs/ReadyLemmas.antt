-- The variables of well typed rules have values of their types where the messages fit: needs suit, and items and
-- operands are ready.
use Rattle.std.proofs.Common.{◌≡◌, ◌∙◌, ℕ, zero, suc, List, [], ◌∷◌, true, Option, None, Some, refl, ap, sym, slice_get, slice_index}
use Rattle.std.specs.List.{AllByRecursion}
use Rattle.std.specs.Option.{option_and_then}
use Rattle.std.proofs.lemmas.Option.{slice_get_within, get_or_from_slice_get}
use Rattle.join_base.specs.declared.message.Sort.{Sort}
use Rattle.join_base.specs.declared.message.Value.{Value}
use Rattle.join_base.specs.declared.message.Message.{Message}
use Rattle.guard_eval.specs.Meaning.{Need, has_sort, is_of_sort, operand_needs}
use Rattle.guard_eval.proofs.ExtendLemmas.{both_true}
use Rattle.pattern_core.specs.Suits.{KindHas, NeedSuits, SlotsSuit}
use Rattle.pattern_core.specs.Choice.{slots_of}
use Rattle.guard_eval.specs.declared.term.Operand.{Operand}
use Rattle.pattern_core.proofs.GuardLemmas.{ready_where_full}
use Rattle.pattern_core.proofs.LawLemmas.{is_full-slots_of}
use Rattle.script_types.specs.declared.plan.Item.{Item}
use Rattle.script_types.specs.Typed.{HasType, IsTypedItem, IsTypedOperand, Sorts}
use Rattle.fair_semantics.specs.Step.{are_of_sorts, fits, fits_sorts}
use Rattle.fair_semantics.specs.Ready.{ItemReady, OperandReady, item_needs}
use Rattle.fair_semantics.proofs.ListLemmas.{each_from}
use Rattle.fair_semantics.proofs.TypedLemmas.{AreTypedNeeds, item_typed, operand_typed}

-- values of these types have one at each place of a type
value_of_type : (types : List Sort) (values : List Value) (field : ℕ) (type : Sort) → are_of_sorts types values ≡ true → slice_get types field ≡ Some type → has_sort type (slice_get values field) ≡ true
value_of_type [] [] field type e h = absurd cc
value_of_type [] (v ∷ values) field type e h = absurd cc
value_of_type (t ∷ types) [] field type e h = absurd cc
value_of_type (t ∷ types) (v ∷ values) zero type e h =
    let same : t ≡ type = cc in
    ap (λ (x : Sort). is_of_sort x v) (sym same) ∙ (both_true (is_of_sort t v) (are_of_sorts types values) e).0
value_of_type (t ∷ types) (v ∷ values) (suc field) type e h = value_of_type types values field type (both_true (is_of_sort t v) (are_of_sorts types values) e).1 h

fits_of : (o : Option (List Sort)) (types : List Sort) (values : List Value) → o ≡ Some types → fits_sorts o values ≡ true → are_of_sorts types values ≡ true
fits_of None types values e h = absurd cc
fits_of (Some found) types values e h = let same : found ≡ types = cc in ap (λ (x : List Sort). are_of_sorts x values) (sym same) ∙ h

steps_of : {X Y : Type 0} (f : X → Option Y) (o : Option X) (y : Y) → option_and_then f o ≡ Some y → (x : X) × (o ≡ Some x) × (f x ≡ Some y)
steps_of f None y e = absurd cc
steps_of f (Some x) y e = (x, refl, e)

module _ (sorts : Sorts) (messages : List Message) (fitting : AllByRecursion (λ m. fits sorts m ≡ true) messages) where
  -- messages of a kind have values of its types
  kind_has : (kind field : ℕ) (types : List Sort) (type : Sort) → slice_get sorts kind ≡ Some types → slice_get types field ≡ Some type → KindHas messages kind field type
  kind_has kind field types type known typed =
      each_from (λ (m : Message). fits sorts m ≡ true) (λ (m : Message). m.kind ≡ kind → has_sort type (slice_get m.fields field) ≡ true)
      (λ m fit e. value_of_type types m.fields field type (fits_of (slice_get sorts m.kind) types m.fields (ap (slice_get sorts) e ∙ known) fit) typed)
      messages fitting

  need_suits : (kinds : List ℕ) (need : Need) → HasType sorts kinds need.1 need.0 → NeedSuits messages kinds need
  need_suits kinds need typed =
      let outer = steps_of (λ (types : List Sort). slice_get types need.0.field) (option_and_then (slice_get sorts) (slice_get kinds need.0.pattern)) need.1 typed in
      let inner = steps_of (slice_get sorts) (slice_get kinds need.0.pattern) outer.0 outer.1 in
      let kind : slice_index kinds need.0.pattern ≡ inner.0 = get_or_from_slice_get kinds need.0.pattern inner.0 0 inner.1 in
      (slice_get_within kinds need.0.pattern inner.0 inner.1, kind_has (slice_index kinds need.0.pattern) need.0.field outer.0 need.1 (ap (slice_get sorts) kind ∙ inner.2) outer.2)

  pub needs_suit : (kinds : List ℕ) (needs : List Need) → AreTypedNeeds sorts kinds needs → AllByRecursion (NeedSuits messages kinds) needs
  needs_suit kinds needs typed = each_from (λ (n : Need). HasType sorts kinds n.1 n.0) (NeedSuits messages kinds) (need_suits kinds) needs typed

  pub items_ready : (kinds taken : List ℕ) (items : List Item) → SlotsSuit messages kinds (slots_of taken) → AllByRecursion (IsTypedItem sorts kinds) items → AllByRecursion (ItemReady messages (slots_of taken)) items
  items_ready kinds taken items suits typed =
      each_from (IsTypedItem sorts kinds) (ItemReady messages (slots_of taken))
      (λ i t. ready_where_full messages kinds (slots_of taken) (item_needs i) suits (needs_suit kinds (item_needs i) (item_typed sorts kinds i t)) (is_full-slots_of taken))
      items typed

  pub operand_ready : (kinds taken : List ℕ) (o : Operand) → SlotsSuit messages kinds (slots_of taken) → IsTypedOperand sorts kinds o → OperandReady messages (slots_of taken) o
  operand_ready kinds taken o suits typed =
      ready_where_full messages kinds (slots_of taken) (operand_needs o) suits (needs_suit kinds (operand_needs o) (operand_typed sorts kinds o typed)) (is_full-slots_of taken)
