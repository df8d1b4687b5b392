-- Assignments with a number more.
use Rattle.std.proofs.Common.{◌≡◌, ◌∙◌, ℕ, zero, suc, ◌<◌, List, [], ◌∷◌, Bool, true, false, not, ◌&&◌, ◌||◌, Option, Some, None, slice_get, refl, sym, ap, arith}
use Rattle.std.specs.Prelude.{◌==◌}
use Rattle.std.specs.List.{list_all}
use Rattle.std.proofs.lemmas.Bool.Decides.{nat_tests}
use Rattle.join_base.specs.declared.message.Message.{Message}
use Rattle.guard_eval.specs.Condition.{Condition}
use Rattle.guard_eval.specs.Meaning.{Assignment, Need, needs_of, has_some, is_slot_filled, is_filled, is_decided, is_true}
use Rattle.guard_eval.proofs.ExtendLemmas.{Extends, both_true, is_true-extended}
use Rattle.pattern_core.specs.Matches.{is_agreeable, holds_number}
use Rattle.tree_rows.specs.Routes.{with_number}
use Rattle.row_screens.specs.Offers.{is_open, is_free}
use Rattle.row_screens.specs.Below.{AreBelow}

-- ---- free patterns

open_is_none : (o : Option (Option ℕ)) → is_open o ≡ true → o ≡ Some None
open_is_none None h = absurd cc
open_is_none (Some None) h = refl
open_is_none (Some (Some n)) h = absurd cc

pub free_is_none : (slots : Assignment) (p : ℕ) → is_free slots p ≡ true → slice_get slots p ≡ Some None
free_is_none slots p h = open_is_none (slice_get slots p) h

pub none_is_free : (slots : Assignment) (p : ℕ) → slice_get slots p ≡ Some None → is_free slots p ≡ true
none_is_free slots p h = ap is_open h

and_true : (b : Bool) → b ≡ (b && true)
and_true true = refl
and_true false = refl

and_false : (b : Bool) → false ≡ (b && false)
and_false true = refl
and_false false = refl

zero_suc : (q : ℕ) → (0 == suc q) ≡ false
zero_suc q = grind (arith, nat_tests)

suc_zero : (p : ℕ) → (suc p == 0) ≡ false
suc_zero p = grind (arith, nat_tests)

suc_suc : (p q : ℕ) → (suc p == suc q) ≡ (p == q)
suc_suc p q = grind (arith, nat_tests)

-- which patterns are free where another has a number too
pub free_further : (slots : Assignment) (q m p : ℕ) → is_free (with_number slots q m) p ≡ (is_free slots p && not (p == q))
free_further [] q m p = refl
free_further (slot ∷ slots) zero m zero = and_false (is_open (Some slot))
free_further (slot ∷ slots) zero m (suc p) = and_true (is_free slots p) ∙ sym (λ i. is_free slots p && not (suc_zero p i))
free_further (slot ∷ slots) (suc q) m zero = and_true (is_open (Some slot)) ∙ sym (λ i. is_open (Some slot) && not (zero_suc q i))
free_further (slot ∷ slots) (suc q) m (suc p) = free_further slots q m p ∙ sym (λ i. is_free slots p && not (suc_suc p q i))

-- ---- numbers that are before another

pub below_further : (slots : Assignment) (q m n : ℕ) → AreBelow n slots → m < n → AreBelow n (with_number slots q m)
below_further [] q m n h l = tt
below_further (None ∷ slots) zero m n h l = (l, h)
below_further (Some k ∷ slots) zero m n h l = (l, h.1)
below_further (None ∷ slots) (suc q) m n h l = below_further slots q m n h l
below_further (Some k ∷ slots) (suc q) m n h l = (h.0, below_further slots q m n h.1 l)

other_number : (n k : ℕ) → k < n → (n == k) ≡ false
other_number n k l = grind (arith, nat_tests)

pub below_apart : (slots : Assignment) (n : ℕ) → AreBelow n slots → holds_number slots n ≡ false
below_apart [] n h = refl
below_apart (None ∷ slots) n h = below_apart slots n h
below_apart (Some k ∷ slots) n h = (λ i. other_number n k h.0 i || holds_number slots n) ∙ below_apart slots n h.1

-- ---- agreeable where a longer one is

pub extends_one : (slots : Assignment) (q m : ℕ) → is_free slots q ≡ true → Extends slots (with_number slots q m)
extends_one [] q m free p filled = refl
extends_one (None ∷ slots) zero m free zero filled = absurd cc
extends_one (Some k ∷ slots) zero m free zero filled = absurd cc
extends_one (slot ∷ slots) zero m free (suc p) filled = refl
extends_one (slot ∷ slots) (suc q) m free zero filled = refl
extends_one (slot ∷ slots) (suc q) m free (suc p) filled = extends_one slots q m free p filled

extends_both : (slots : Assignment) (q m p n : ℕ) → is_free slots q ≡ true → Extends (with_number slots p n) (with_number (with_number slots q m) p n)
extends_both [] q m p n free x filled = refl
extends_both (slot ∷ slots) zero m zero n free x filled = refl
extends_both (slot ∷ slots) (suc q) m zero n free zero filled = refl
extends_both (slot ∷ slots) (suc q) m zero n free (suc x) filled = extends_one slots q m free x filled
extends_both (None ∷ slots) zero m (suc p) n free zero filled = absurd cc
extends_both (Some k ∷ slots) zero m (suc p) n free zero filled = absurd cc
extends_both (slot ∷ slots) zero m (suc p) n free (suc x) filled = refl
extends_both (slot ∷ slots) (suc q) m (suc p) n free zero filled = refl
extends_both (slot ∷ slots) (suc q) m (suc p) n free (suc x) filled = extends_both slots q m p n free x filled

module _ (messages : List Message) (slots longer : Assignment) (extends : Extends slots longer) where
  filled_too : (needs : List Need) → list_all (is_filled slots) needs ≡ true → list_all (is_filled longer) needs ≡ true
  filled_too [] h = refl
  filled_too (need ∷ needs) h =
      let parts = both_true (is_filled slots need) (list_all (is_filled slots) needs) h in
      let here : is_filled longer need ≡ true = ap is_slot_filled (extends need.0.pattern parts.0) ∙ parts.0 in
      (λ i. here i && list_all (is_filled longer) needs) ∙ filled_too needs parts.1

  agrees_one : (c : Condition) (b : Bool) → is_decided slots c ≡ b → (not (is_decided longer c) || is_true messages longer c) ≡ true → (not b || is_true messages slots c) ≡ true
  agrees_one c false decided holds = refl
  agrees_one c true decided holds =
      let parts = both_true (has_some (needs_of c)) (list_all (is_filled slots) (needs_of c)) decided in
      let too : is_decided longer c ≡ true = (λ i. parts.0 i && list_all (is_filled longer) (needs_of c)) ∙ filled_too (needs_of c) parts.1 in
      sym (is_true-extended messages slots longer extends c parts.1) ∙ sym (λ i. not (too i) || is_true messages longer c) ∙ holds

  -- what an agreeable assignment extends is agreeable
  pub agreeable_below : (conjuncts : List Condition) → is_agreeable messages conjuncts longer ≡ true → is_agreeable messages conjuncts slots ≡ true
  agreeable_below [] holds = refl
  agreeable_below (c ∷ conjuncts) holds =
      let parts = both_true (not (is_decided longer c) || is_true messages longer c) (is_agreeable messages conjuncts longer) holds in
      (λ i. agrees_one c (is_decided slots c) refl parts.0 i && is_agreeable messages conjuncts slots) ∙ agreeable_below conjuncts parts.1

-- an assignment that agrees with a number at each of two patterns agrees with one of them alone
pub agreeable_one : (messages : List Message) (conjuncts : List Condition) (slots : Assignment) (q m p n : ℕ) → is_free slots q ≡ true → is_agreeable messages conjuncts (with_number (with_number slots q m) p n) ≡ true → is_agreeable messages conjuncts (with_number slots p n) ≡ true
agreeable_one messages conjuncts slots q m p n free holds = agreeable_below messages (with_number slots p n) (with_number (with_number slots q m) p n) (extends_both slots q m p n free) conjuncts holds
