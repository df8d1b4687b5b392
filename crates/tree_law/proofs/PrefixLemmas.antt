-- A prefix of a partial match in the order of arrival is a partial match.
use Rattle.std.proofs.Common.{◌≡◌, ℕ, zero, suc, List, [], ◌∷◌, length, Bool, true, false, not, ◌&&◌, Some, None, refl, ◌∙◌}
use Rattle.std.specs.Prelude.{nat_le, if◌then◌else◌, ◌==◌, ◌||◌}
use Rattle.std.proofs.lemmas.Bool.{or_parts}
use Rattle.join_base.specs.declared.message.Message.{Message}
use Rattle.guard_eval.specs.Meaning.{Assignment, is_slot_filled}
use Rattle.guard_eval.proofs.ExtendLemmas.{Extends, both_true}
use Rattle.pattern_core.specs.Assigns.{Assigns}
use Rattle.pattern_core.specs.Matches.{assignments, holds_number, is_agreeable, is_full, is_partial_match, slot_is}
use Rattle.pattern_core.specs.Window.{seen_of}
use Rattle.pattern_core.proofs.AssignsLemmas.{IsIn-assignments, Assigns-from_IsIn}
use Rattle.pattern_core.proofs.MembersLemmas.{IsIn-filter, IsIn-filter_from}
use Rattle.row_screens.proofs.SlotsLemmas.{agreeable_below}
use Rattle.tree_law.specs.Laws.{PrefixesArePartial, up_to}
use Rattle.tree_law.proofs.AssignLemmas.{both_of}

module _ (latest : ℕ) where
  -- a number stays or its pattern is empty
  extends : (slots : Assignment) → Extends (up_to latest slots) slots
  extends [] p filled = refl
  extends (None ∷ slots) zero filled = refl
  extends (Some n ∷ slots) zero filled = by (nat_le n latest) filled
    where
      by : (b : Bool) → is_slot_filled (if b then Some n else None) ≡ true → Some n ≡ (if b then Some n else None)
      by true e = refl
      by false e = absurd cc
  extends (slot ∷ slots) (suc p) filled = extends slots p filled

  open_too : (slots : Assignment) → not (is_full slots) ≡ true → not (is_full (up_to latest slots)) ≡ true
  open_too [] h = h
  open_too (None ∷ slots) h = refl
  open_too (Some n ∷ slots) h = by (nat_le n latest) (open_too slots h)
    where
      by : (b : Bool) → not (is_full (up_to latest slots)) ≡ true → not (is_slot_filled (if b then Some n else None) && is_full (up_to latest slots)) ≡ true
      by true rest = rest
      by false rest = refl

  apart_too : (slots : Assignment) (k : ℕ) → holds_number slots k ≡ false → holds_number (up_to latest slots) k ≡ false
  apart_too [] k h = h
  apart_too (None ∷ slots) k h = apart_too slots k h
  apart_too (Some n ∷ slots) k h = let parts = or_parts (k == n) (holds_number slots k) h in by (nat_le n latest) parts.0 (apart_too slots k parts.1)
    where
      by : (b : Bool) → (k == n) ≡ false → holds_number (up_to latest slots) k ≡ false → (slot_is k (if b then Some n else None) || holds_number (up_to latest slots) k) ≡ false
      by true other rest = (λ i. other i || holds_number (up_to latest slots) k) ∙ rest
      by false other rest = rest

  module _ (messages : List Message) (seen : List ℕ) where
    assigns_too : (kinds : List ℕ) (slots : Assignment) → Assigns messages seen kinds slots → Assigns messages seen kinds (up_to latest slots)
    assigns_too [] [] h = tt
    assigns_too [] (slot ∷ slots) h = absurd h
    assigns_too (kind ∷ kinds) [] h = absurd h
    assigns_too (kind ∷ kinds) (None ∷ slots) h = assigns_too kinds slots h
    assigns_too (kind ∷ kinds) (Some n ∷ slots) h = by (nat_le n latest) (assigns_too kinds slots h.1)
      where
        by : (b : Bool) → Assigns messages seen kinds (up_to latest slots) → Assigns messages seen (kind ∷ kinds) ((if b then Some n else None) ∷ up_to latest slots)
        by true rest = (record { is_live = h.0.is_live; of_kind = h.0.of_kind; apart = apart_too slots n h.0.apart }, rest)
        by false rest = rest

pub prefixes_are_partial : PrefixesArePartial
prefixes_are_partial messages live d slots latest m =
    let seen = seen_of d (length messages) live in
    let at = IsIn-filter_from (is_partial_match messages d) slots (assignments messages seen d.patterns) m in
    let parts = both_true (not (is_full slots)) (is_agreeable messages d.conjuncts slots) at.1 in
    IsIn-filter (is_partial_match messages d) (up_to latest slots) (assignments messages seen d.patterns)
    (both_of (not (is_full (up_to latest slots))) (is_agreeable messages d.conjuncts (up_to latest slots)) (open_too latest slots parts.0)
    (agreeable_below messages (up_to latest slots) slots (extends latest slots) d.conjuncts parts.1))
    (IsIn-assignments messages seen d.patterns (up_to latest slots) (assigns_too latest messages seen d.patterns slots (Assigns-from_IsIn messages seen d.patterns slots at.0)))
