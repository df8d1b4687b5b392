-- An index that has all messages has those of each path.
use Rattle.std.proofs.Common.{◌≡◌, ◌∙◌, inl, inr, ℕ, zero, suc, ◌+◌, ◌≤◌, List, [], ◌∷◌, Some, None, ap, sym, subst, arith}
use Rattle.std.specs.Prelude.{slice_get}
use Rattle.std.specs.List.{AllByRecursion}
use Rattle.std.proofs.lemmas.Bool.{cases_lt}
use Rattle.join_base.specs.declared.message.Message.{Message}
use Rattle.guard_eval.specs.Meaning.{Assignment, number_at}
use Rattle.pattern_core.specs.Suits.{IsRecorded, SlotsSuit}
use Rattle.value_index.specs.declared.field.IndexedField.{IndexedField}
use Rattle.value_index.specs.Index.{Index, Has, Keeps}
use Rattle.row_screens.specs.Offering.{AreIndexed, CanOffer}
use Rattle.match_tree.specs.Tree.{Tree, offer_to}
use Rattle.matching_tests.specs.Samples.{HasAll, HasUpTo}

assigned_recorded : (messages : List Message) (kinds : List ℕ) (slots : Assignment) (q m : ℕ) → SlotsSuit messages kinds slots → number_at slots q ≡ Some m → IsRecorded messages m
assigned_recorded messages [] [] q m suits at = absurd cc
assigned_recorded messages [] (slot ∷ slots) q m suits at = absurd suits
assigned_recorded messages (kind ∷ kinds) [] q m suits at = absurd suits
assigned_recorded messages (kind ∷ kinds) (None ∷ slots) zero m suits at = absurd cc
assigned_recorded messages (kind ∷ kinds) (Some n ∷ slots) zero m suits at = let same : n ≡ m = cc in subst (λ (x : ℕ). IsRecorded messages x) same suits.0
assigned_recorded messages (kind ∷ kinds) (None ∷ slots) (suc q) m suits at = assigned_recorded messages kinds slots q m suits at
assigned_recorded messages (kind ∷ kinds) (Some n ∷ slots) (suc q) m suits at = assigned_recorded messages kinds slots q m suits.3 at

pub all_indexed : (index : Index) (messages : List Message) (t : Tree) (number : ℕ) → HasAll index messages → AllByRecursion (CanOffer (offer_to t messages number)) t.paths → AllByRecursion (AreIndexed index messages) t.paths
all_indexed index messages t number has can = each t.paths can
  where
    each : (paths : List Assignment) → AllByRecursion (CanOffer (offer_to t messages number)) paths → AllByRecursion (AreIndexed index messages) paths
    each [] h = tt
    each (path ∷ paths) h = ((λ q m at. has m (assigned_recorded messages t.definition.patterns path q m h.0.suits at)), each paths h.1)

-- one message more
pub more_indexed : (index now : Index) (messages : List Message) (last : ℕ) → now.fields ≡ index.fields → Keeps index.entries now.entries → Has now messages (last + 1) → HasUpTo index messages last → HasUpTo now messages (last + 1)
more_indexed index now messages last same keeps newest has number recorded up = elim (cases_lt last number) [
  | inl above ↦ let is : last + 1 ≡ number = omega arith in subst (λ (n : ℕ). Has now messages n) is newest
  | inr within ↦ old (has number recorded within)
]
  where
    old : Has index messages number → Has now messages number
    old h place indexed get of_kind = keeps _ (h place indexed (ap (λ (fields : List IndexedField). slice_get fields place) (sym same) ∙ get) of_kind)
