-- Agreeable assignments: the empty one is, and so is each that a complete match extends.
use Rattle.std.proofs.Common.{◌≡◌, ◌∙◌, ℕ, zero, suc, List, [], ◌∷◌, replicate, Bool, true, false, not, ◌&&◌, ◌||◌, None, refl, sym}
use Rattle.std.specs.List.{list_all}
use Rattle.join_base.specs.declared.message.Message.{Message}
use Rattle.guard_eval.specs.Condition.{Condition}
use Rattle.guard_eval.specs.Meaning.{Assignment, Need, number_at, needs_of, has_some, is_slot_filled, is_filled, is_decided, is_true}
use Rattle.guard_eval.proofs.ExtendLemmas.{Extends, both_true, is_true-extended}
use Rattle.pattern_core.specs.Matches.{is_agreeable, makes_all_true}

-- no pattern of an empty assignment is filled
pub number_at-empty : (n p : ℕ) → is_slot_filled (number_at (replicate n None) p) ≡ false
number_at-empty zero p = refl
number_at-empty (suc n) zero = refl
number_at-empty (suc n) (suc p) = number_at-empty n p

undecided : (n : ℕ) (needs : List Need) → (has_some needs && list_all (is_filled (replicate n None)) needs) ≡ false
undecided n [] = refl
undecided n (need ∷ needs) = λ i. number_at-empty n need.0.pattern i && list_all (is_filled (replicate n None)) needs

-- without a number no conjunct is decided
pub agreeable_empty : (messages : List Message) (conjuncts : List Condition) (n : ℕ) → is_agreeable messages conjuncts (replicate n None) ≡ true
agreeable_empty messages [] n = refl
agreeable_empty messages (c ∷ conjuncts) n =
    (λ i. (not (undecided n (needs_of c) i) || is_true messages (replicate n None) c) && is_agreeable messages conjuncts (replicate n None)) ∙ agreeable_empty messages conjuncts n

module _ (messages : List Message) (slots longer : Assignment) (extends : Extends slots longer) where
  agrees_one : (c : Condition) (b : Bool) → is_decided slots c ≡ b → is_true messages longer c ≡ true → (not b || is_true messages slots c) ≡ true
  agrees_one c false decided holds = refl
  agrees_one c true decided holds =
      let filled = (both_true (has_some (needs_of c)) (list_all (is_filled slots) (needs_of c)) decided).1 in
      sym (is_true-extended messages slots longer extends c filled) ∙ holds

  -- what makes every conjunct true extends an agreeable assignment alone
  pub agreeable_from_true : (conjuncts : List Condition) → makes_all_true messages conjuncts longer ≡ true → is_agreeable messages conjuncts slots ≡ true
  agreeable_from_true [] holds = refl
  agreeable_from_true (c ∷ conjuncts) holds =
      let parts = both_true (is_true messages longer c) (makes_all_true messages conjuncts longer) holds in
      (λ i. agrees_one c (is_decided slots c) refl parts.0 i && is_agreeable messages conjuncts slots) ∙ agreeable_from_true conjuncts parts.1
