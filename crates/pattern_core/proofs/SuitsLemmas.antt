-- Slots that suit a definition: full ones, empty ones, and what follows.
use Rattle.std.proofs.Common.{◌≡◌, inl, inr, ℕ, zero, suc, ◌+◌, List, [], ◌∷◌, length, drop, replicate, slice_get, slice_index, slice_set, Bool, true, false, ◌&&◌, ◌||◌, Option, Some, None, refl, ap, sym, subst, arith}
use Rattle.std.specs.Prelude.{All, ◌==◌}
use Rattle.std.proofs.lemmas.Bool.Decides.{nat_tests}
use Rattle.join_base.specs.declared.message.Message.{Message}
use Rattle.guard_eval.specs.Meaning.{Assignment, recorded_message, is_slot_filled}
use Rattle.pattern_core.specs.Assigns.{Assigns}
use Rattle.pattern_core.specs.Members.{IsIn}
use Rattle.pattern_core.specs.Matches.{is_of_kind, holds_number, slot_is, is_full}
use Rattle.pattern_core.specs.Suits.{IsRecorded, SlotsSuit}

pub length-SlotsSuit : (messages : List Message) (kinds : List ℕ) (slots : Assignment) → SlotsSuit messages kinds slots → length slots ≡ length kinds
length-SlotsSuit messages [] [] h = refl
length-SlotsSuit messages [] (slot ∷ slots) h = absurd h
length-SlotsSuit messages (kind ∷ kinds) [] h = absurd h
length-SlotsSuit messages (kind ∷ kinds) (None ∷ slots) h = ap suc (length-SlotsSuit messages kinds slots h)
length-SlotsSuit messages (kind ∷ kinds) (Some n ∷ slots) h = ap suc (length-SlotsSuit messages kinds slots h.3)

pub suits_empty : (messages : List Message) (kinds : List ℕ) → SlotsSuit messages kinds (replicate (length kinds) None)
suits_empty messages [] = tt
suits_empty messages (kind ∷ kinds) = suits_empty messages kinds

both_false : (a b : Bool) → (a || b) ≡ false → (a ≡ false) × (b ≡ false)
both_false true b e = absurd cc
both_false false b e = (refl, e)

apart_too : (n m : ℕ) → (n == m) ≡ false → (m == n) ≡ false
apart_too n m h = grind (arith, nat_tests)

-- a further number is another than those that are held
holds_further : (slots : Assignment) (p n m : ℕ) → holds_number slots m ≡ false → (m == n) ≡ false → holds_number (slice_set slots p (Some n)) m ≡ false
holds_further [] p n m held other = held
holds_further (slot ∷ slots) zero n m held other = let rest = (both_false (slot_is m slot) (holds_number slots m) held).1 in λ i. other i || rest i
holds_further (slot ∷ slots) (suc p) n m held other =
    let parts = both_false (slot_is m slot) (holds_number slots m) held in
    let here = parts.0 in
    let later = holds_further slots p n m parts.1 other in
    λ i. here i || later i

-- slots with one number more
pub suits_further : (messages : List Message) (kinds : List ℕ) (slots : Assignment) (p n : ℕ) → SlotsSuit messages kinds slots → slice_get slots p ≡ Some None → IsRecorded messages n → is_of_kind (recorded_message messages n) (slice_index kinds p) ≡ true → holds_number slots n ≡ false
    → SlotsSuit messages kinds (slice_set slots p (Some n))
suits_further messages [] [] p n suits empty recorded kind apart = absurd cc
suits_further messages [] (slot ∷ slots) p n suits empty recorded kind apart = absurd suits
suits_further messages (k ∷ kinds) [] p n suits empty recorded kind apart = absurd suits
suits_further messages (k ∷ kinds) (None ∷ slots) zero n suits empty recorded kind apart = (recorded, kind, apart, suits)
suits_further messages (k ∷ kinds) (Some m ∷ slots) zero n suits empty recorded kind apart = absurd cc
suits_further messages (k ∷ kinds) (None ∷ slots) (suc p) n suits empty recorded kind apart = suits_further messages kinds slots p n suits empty recorded kind apart
suits_further messages (k ∷ kinds) (Some m ∷ slots) (suc p) n suits empty recorded kind apart =
    let parts = both_false (n == m) (holds_number slots n) apart in
    (suits.0, suits.1, holds_further slots p n m suits.2 (apart_too n m parts.0), suits_further messages kinds slots p n suits.3 empty recorded kind parts.1)

pub recorded_of : (messages : List Message) (live : List ℕ) (n : ℕ) → All (IsRecorded messages) live → IsIn n live → IsRecorded messages n
recorded_of messages [] n h m = absurd m
recorded_of messages (x ∷ live) n h (inl e) = subst (IsRecorded messages) e (h 0 0 (omega arith))
recorded_of messages (x ∷ live) n h (inr m) = recorded_of messages live n (λ k d l. h (suc k) d (omega arith)) m

-- an assignment of recorded numbers suits
pub suits_from_assigns : (messages : List Message) (live kinds : List ℕ) (slots : Assignment) → All (IsRecorded messages) live → Assigns messages live kinds slots → SlotsSuit messages kinds slots
suits_from_assigns messages live [] [] recorded assigns = tt
suits_from_assigns messages live [] (slot ∷ slots) recorded assigns = absurd assigns
suits_from_assigns messages live (k ∷ kinds) [] recorded assigns = absurd assigns
suits_from_assigns messages live (k ∷ kinds) (None ∷ slots) recorded assigns = suits_from_assigns messages live kinds slots recorded assigns
suits_from_assigns messages live (k ∷ kinds) (Some n ∷ slots) recorded assigns =
    (recorded_of messages live n recorded assigns.0.is_live, assigns.0.of_kind, assigns.0.apart, suits_from_assigns messages live kinds slots recorded assigns.1)

pub not_full : (slots : Assignment) (i : ℕ) → slice_get slots i ≡ Some None → is_full slots ≡ false
not_full [] i e = absurd cc
not_full (slot ∷ slots) zero e = let empty : slot ≡ None = cc in ap (λ (s : Option ℕ). is_slot_filled s && is_full slots) empty
not_full (None ∷ slots) (suc i) e = refl
not_full (Some n ∷ slots) (suc i) e = not_full slots i e

pub full_further : (slots : Assignment) (i n : ℕ) → slice_get slots i ≡ Some (Some n) → is_full (drop (i + 1) slots) ≡ is_full (drop i slots)
full_further [] i n e = absurd cc
full_further (slot ∷ slots) zero n e = let filled : slot ≡ Some n = cc in ap (λ (s : Option ℕ). is_slot_filled s && is_full slots) (sym filled)
full_further (slot ∷ slots) (suc i) n e = let more : suc i + 1 ≡ suc (i + 1) = omega arith in rw more (full_further slots i n e)
