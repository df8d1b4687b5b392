-- What an assignment has at a pattern.
use Rattle.std.proofs.Common.{◌≡◌, ◌∙◌, ℕ, zero, suc, ◌+◌, ◌≤◌, ◌<◌, List, [], ◌∷◌, length, drop, slice_get, Bool, true, false, not, ◌||◌, Option, Some, None, refl, ap, sym, arith}
use Rattle.guard_eval.specs.Meaning.{Assignment, is_slot_filled, number_at}
use Rattle.guard_eval.proofs.ReadyLemmas.{number_at-place}
use Rattle.pattern_core.specs.Matches.{holds_number, slot_is}
use Rattle.waiting_reasons.specs.Ways.{filled_count, slot_count}

pub number_there : (slots : Assignment) (p : ℕ) (slot : Option ℕ) → slice_get slots p ≡ Some slot → slot ≡ number_at slots p
number_there slots p slot e = sym (number_at-place slots p slot e)

-- behind the last pattern there is no number
pub number_beyond : (slots : Assignment) (p : ℕ) → length slots ≤ p → None ≡ number_at slots p
number_beyond [] p l = refl
number_beyond (slot ∷ slots) zero l = absurd (omega (arith, l))
number_beyond (slot ∷ slots) (suc p) l = number_beyond slots p (omega (arith, l))

-- a pattern without a number is an empty one
pub empty_there : (slots : Assignment) (p : ℕ) → p < length slots → is_slot_filled (number_at slots p) ≡ false → slice_get slots p ≡ Some None
empty_there [] p l h = absurd (omega (arith, l))
empty_there (None ∷ slots) zero l h = refl
empty_there (Some n ∷ slots) zero l h = absurd cc
empty_there (slot ∷ slots) (suc p) l h = empty_there slots p (omega (arith, l)) h

-- the patterns from a place on have a number where the one there has it, or a later one
pub held_further : (slots : Assignment) (p n : ℕ) (slot : Option ℕ) → slice_get slots p ≡ Some slot → holds_number (drop p slots) n ≡ (slot_is n slot || holds_number (drop (p + 1) slots) n)
held_further [] p n slot e = absurd cc
held_further (first ∷ slots) zero n slot e = let same : first ≡ slot = cc in ap (λ (s : Option ℕ). slot_is n s || holds_number slots n) same
held_further (first ∷ slots) (suc p) n slot e = let more : suc p + 1 ≡ suc (p + 1) = omega arith in rw more (held_further slots p n slot e)

pub count_further : (slots : Assignment) (p : ℕ) (slot : Option ℕ) → slice_get slots p ≡ Some slot → filled_count (drop p slots) ≡ slot_count slot + filled_count (drop (p + 1) slots)
count_further [] p slot e = absurd cc
count_further (first ∷ slots) zero slot e = let same : first ≡ slot = cc in ap (λ (s : Option ℕ). slot_count s + filled_count slots) same
count_further (first ∷ slots) (suc p) slot e = let more : suc p + 1 ≡ suc (p + 1) = omega arith in rw more (count_further slots p slot e)

-- a test that is true where the one there is, and one that goes on where it is not
pub held_here : (slots : Assignment) (p n : ℕ) (slot : Option ℕ) → slice_get slots p ≡ Some slot → slot_is n slot ≡ true → holds_number (drop p slots) n ≡ true
held_here slots p n slot e hit = held_further slots p n slot e ∙ ap (λ (b : Bool). b || holds_number (drop (p + 1) slots) n) hit

pub held_later : (slots : Assignment) (p n : ℕ) (slot : Option ℕ) → slice_get slots p ≡ Some slot → slot_is n slot ≡ false → holds_number (drop (p + 1) slots) n ≡ holds_number (drop p slots) n
held_later slots p n slot e miss = sym (held_further slots p n slot e ∙ ap (λ (b : Bool). b || holds_number (drop (p + 1) slots) n) miss)

pub not_of : (b : Bool) → not b ≡ true → b ≡ false
not_of false e = refl
not_of true e = absurd cc
