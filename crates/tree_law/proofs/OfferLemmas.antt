-- A further message may be offered to each path of a tree that holds.
use Rattle.std.proofs.Common.{◌≡◌, ◌∙◌, ℕ, ℤ, zero, suc, true, List, [], ◌∷◌, length, not, Option, Some, None, refl, ap, subst, sym, arith, length-append}
use Rattle.std.specs.Prelude.{pos, if◌then◌else◌}
use Rattle.std.specs.List.{AllByRecursion}
use Rattle.join_base.specs.declared.message.Message.{Message}
use Rattle.guard_eval.specs.Meaning.{Assignment, field_of, int_of, recorded_message, number_at, words_of}
use Rattle.guard_eval.proofs.ExtendLemmas.{both_true}
use Rattle.pattern_core.specs.declared.definition.Definition.{Definition}
use Rattle.pattern_core.specs.Assigns.{Assigns}
use Rattle.pattern_core.specs.Matches.{is_of_kind, is_full, is_agreeable, is_partial_match, assignments}
use Rattle.pattern_core.specs.Members.{IsIn}
use Rattle.pattern_core.specs.Suits.{IsRecorded, SlotsSuit, DefinitionSuits}
use Rattle.pattern_core.specs.Window.{is_seen, seen_of}
use Rattle.pattern_core.proofs.AssignsLemmas.{Assigns-from_IsIn}
use Rattle.pattern_core.proofs.MembersLemmas.{IsIn-filter_from}
use Rattle.row_screens.specs.Below.{AreBelow}
use Rattle.row_screens.specs.Offering.{CanOffer}
use Rattle.match_tree.specs.Tree.{Tree}
use Rattle.value_index.specs.declared.field.IndexedField.{IndexedField}
use Rattle.value_index.specs.Index.{Index, Has, Lacks, entry, no_index}
use Rattle.value_index.specs.Values.{text_value}
use Rattle.row_screens.specs.Offering.{AreIndexed}
use Rattle.match_tree.proofs.FirstLemmas.{all_members}
use Rattle.row_screens.proofs.LookLemmas.{unindexed}
use Rattle.tree_law.specs.Partials.{AreLive, messages_more, number_more, offer_more}
use Rattle.tree_law.specs.Trees.{HasPaths, Holds}
use Rattle.tree_law.proofs.EvalLemmas.{recorded_message-more, message_of_slot-more, agreeable-same}
use Rattle.tree_law.proofs.AssignLemmas.{Assigns-recorded}

module _ (messages : List Message) (message : Message) (seen : List ℕ) (recorded : (k : ℕ) → IsIn k seen → IsRecorded messages k) where
  more_recorded : (k : ℕ) → IsRecorded messages k → IsRecorded (messages_more messages message) k
  more_recorded k h = let count = length-append messages (message ∷ []) in (h.0, omega (arith, h.1))

  suits_more : (kinds : List ℕ) (slots : Assignment) → Assigns messages seen kinds slots → SlotsSuit (messages_more messages message) kinds slots
  suits_more [] [] h = tt
  suits_more [] (slot ∷ slots) h = h
  suits_more (kind ∷ kinds) [] h = h
  suits_more (kind ∷ kinds) (None ∷ slots) h = suits_more kinds slots h
  suits_more (kind ∷ kinds) (Some k ∷ slots) h =
      let is = recorded k h.0.is_live in
      (more_recorded k is, ap (λ (m : Option Message). is_of_kind m kind) (recorded_message-more messages (message ∷ []) k is) ∙ h.0.of_kind, h.0.apart, suits_more kinds slots h.1)

  below_more : (kinds : List ℕ) (slots : Assignment) → Assigns messages seen kinds slots → AreBelow (number_more messages) slots
  below_more [] [] h = tt
  below_more [] (slot ∷ slots) h = absurd h
  below_more (kind ∷ kinds) [] h = absurd h
  below_more (kind ∷ kinds) (None ∷ slots) h = below_more kinds slots h
  below_more (kind ∷ kinds) (Some k ∷ slots) h = let is = (recorded k h.0.is_live).1 in (omega arith, below_more kinds slots h.1)

pub can_offer : (messages : List Message) (message : Message) (live : List ℕ) (tree : Tree) → AreLive messages live → DefinitionSuits (messages_more messages message) tree.definition → Holds messages live tree
    → AllByRecursion (CanOffer (offer_more messages message tree.definition tree.rule)) tree.paths
can_offer messages message live tree are_live suits h = all_members (CanOffer (offer_more messages message tree.definition tree.rule)) tree.paths one
  where
    d : Definition
    d = tree.definition

    seen : List ℕ
    seen = seen_of d (length messages) live

    recorded : (k : ℕ) → IsIn k seen → IsRecorded messages k
    recorded k m = are_live k (IsIn-filter_from (is_seen d.window (length messages)) k live m).0

    one : (x : Assignment) → IsIn x tree.paths → CanOffer (offer_more messages message d tree.rule) x
    one x m =
        let partial = IsIn-filter_from (is_partial_match messages d) x (assignments messages seen d.patterns) (h.partial.to x m) in
        let assigns = Assigns-from_IsIn messages seen d.patterns x partial.0 in
        let agrees = (both_true (not (is_full x)) (is_agreeable messages d.conjuncts x) partial.1).1 in
        let known = Assigns-recorded messages seen recorded d.patterns x assigns in
        let count = length-append messages (message ∷ []) in
        record {
          definition = suits;
          suits = suits_more messages message seen recorded d.patterns x assigns;
          agreeable = agreeable-same messages (messages_more messages message) x (λ p. message_of_slot-more messages (message ∷ []) x p known) d.conjuncts ∙ agrees;
          indexed = unindexed no_index (messages_more messages message) x refl;
          recorded = (omega arith, omega arith);
          below = below_more messages message seen recorded d.patterns x assigns;
        }

-- ---- what an index has of a tree that holds

-- the numbers of an assignment are among those that are seen
assigned_seen : (messages : List Message) (seen kinds : List ℕ) (slots : Assignment) (p n : ℕ) → Assigns messages seen kinds slots → number_at slots p ≡ Some n → IsIn n seen
assigned_seen messages seen [] [] p n h at = absurd cc
assigned_seen messages seen [] (slot ∷ slots) p n h at = absurd h
assigned_seen messages seen (kind ∷ kinds) [] p n h at = absurd h
assigned_seen messages seen (kind ∷ kinds) (None ∷ slots) zero n h at = absurd cc
assigned_seen messages seen (kind ∷ kinds) (Some k ∷ slots) zero n h at = let same : k ≡ n = cc in subst (λ (m : ℕ). IsIn m seen) same h.0.is_live
assigned_seen messages seen (kind ∷ kinds) (None ∷ slots) (suc p) n h at = assigned_seen messages seen kinds slots p n h at
assigned_seen messages seen (kind ∷ kinds) (Some k ∷ slots) (suc p) n h at = assigned_seen messages seen kinds slots p n h.1 at

abbrev value_in : Option Message → IndexedField → ℤ
value_in m indexed = if indexed.words then pos (text_value (words_of (field_of m indexed.field))) else int_of (field_of m indexed.field)

-- a further message changes no value of a recorded number
pub has_more : (index : Index) (messages : List Message) (message : Message) (n : ℕ) → IsRecorded messages n → Has index messages n → Has index (messages_more messages message) n
has_more index messages message n recorded has place indexed get kind =
    let same = recorded_message-more messages (message ∷ []) n recorded in
    let of_kind : is_of_kind (recorded_message messages n) indexed.kind ≡ true = sym (ap (λ (m : Option Message). is_of_kind m indexed.kind) same) ∙ kind in
    let value = ap (λ (m : Option Message). value_in m indexed) same in
    subst (λ (v : ℤ). IsIn (entry place v n) index.entries) (sym value) (has place indexed get of_kind)

pub lacks_more : (index : Index) (messages : List Message) (message : Message) (n : ℕ) → IsRecorded messages n → Lacks index messages n → Lacks index (messages_more messages message) n
lacks_more index messages message n recorded lacks place indexed get kind there =
    let same = recorded_message-more messages (message ∷ []) n recorded in
    let of_kind : is_of_kind (recorded_message messages n) indexed.kind ≡ true = sym (ap (λ (m : Option Message). is_of_kind m indexed.kind) same) ∙ kind in
    let value = ap (λ (m : Option Message). value_in m indexed) same in
    lacks place indexed get of_kind (subst (λ (v : ℤ). IsIn (entry place v n) index.entries) value there)

-- where it has the live numbers, it has those of the paths, also beside a further message
pub indexed_paths : (index : Index) (messages : List Message) (message : Message) (live : List ℕ) (tree : Tree) → AreLive messages live → ((n : ℕ) → IsIn n live → Has index messages n) → Holds messages live tree → HasPaths index (messages_more messages message) tree
indexed_paths index messages message live tree are_live has h = all_members (AreIndexed index (messages_more messages message)) tree.paths one
  where
    d : Definition
    d = tree.definition

    seen : List ℕ
    seen = seen_of d (length messages) live

    one : (x : Assignment) → IsIn x tree.paths → AreIndexed index (messages_more messages message) x
    one x m p n at =
        let partial = IsIn-filter_from (is_partial_match messages d) x (assignments messages seen d.patterns) (h.partial.to x m) in
        let assigns = Assigns-from_IsIn messages seen d.patterns x partial.0 in
        let is_live = (IsIn-filter_from (is_seen d.window (length messages)) n live (assigned_seen messages seen d.patterns x p n assigns at)).0 in
        has_more index messages message n (are_live n is_live) (has n is_live)
