-- What stays true of one cell, and of the number of seats, over a step.
use Rattle.std.proofs.Common.{◌≡◌, ◌≢◌, ◌⊎◌, ℕ, zero, suc, ◌+◌, ◌<◌, Bool, true, false, List, [], ◌∷◌, length, set, sym, refl, ap, ◌∙◌, subst, inl, inr, ⊎_elim, arith}
use Rattle.std.specs.Prelude.{bit_and, bit_or}
use mathlib.Core.Option.{some, some-injective, some-ne-none}
use mathlib.Core.List.{IsPrefix}
use native.Mathlib.Decide.{ℕ_discrete}
use lib.ListN.{get_elem?}
use Rattle.atomic_table.proofs.Lists.{at_set, set_here, set_else}
use Rattle.turn_lock.specs.declared.view.View.{View}
use Rattle.turn_lock.specs.declared.view.Turn.TheVariants.{Has}
use Rattle.turn_lock.specs.View.{out_count, seats_out, seen_of, met_of}
use Rattle.turn_lock.specs.Rule.{IsWithin, SlotState, HasBit, LacksBit}
use Rattle.turn_lock.proofs.Lane.{word_of, Lane}
use Rattle.turn_lock.proofs.Accounts.{BitsAfter, bits_after}

-- the steps on a word
pub or_flag : (q r f : Bool) → bit_or (word_of q r f) 1 ≡ word_of q r true
or_flag true true true = refl
or_flag true true false = refl
or_flag true false true = refl
or_flag true false false = refl
or_flag false true true = refl
or_flag false true false = refl
or_flag false false true = refl
or_flag false false false = refl

pub and_flag : (q r f : Bool) → bit_and (word_of q r f) 18446744073709551614 ≡ word_of q r false
and_flag true true true = refl
and_flag true true false = refl
and_flag true false true = refl
and_flag true false false = refl
and_flag false true true = refl
and_flag false true false = refl
and_flag false false true = refl
and_flag false false false = refl

pub or_running : (q r f : Bool) → bit_or (word_of q r f) 2 ≡ word_of q true f
or_running true true true = refl
or_running true true false = refl
or_running true false true = refl
or_running true false false = refl
or_running false true true = refl
or_running false true false = refl
or_running false false true = refl
or_running false false false = refl

pub and_running : (q r f : Bool) → bit_and (word_of q r f) 18446744073709551613 ≡ word_of q false f
and_running true true true = refl
and_running true true false = refl
and_running true false true = refl
and_running true false false = refl
and_running false true true = refl
and_running false true false = refl
and_running false false true = refl
and_running false false false = refl

pub or_queued : (q r f : Bool) → bit_or (word_of q r f) 4 ≡ word_of true r f
or_queued true true true = refl
or_queued true true false = refl
or_queued true false true = refl
or_queued true false false = refl
or_queued false true true = refl
or_queued false true false = refl
or_queued false false true = refl
or_queued false false false = refl

pub and_queued : (q r f : Bool) → bit_and (word_of q r f) 18446744073709551611 ≡ word_of false r f
and_queued true true true = refl
and_queued true true false = refl
and_queued true false true = refl
and_queued true false false = refl
and_queued false true true = refl
and_queued false true false = refl
and_queued false false true = refl
and_queued false false false = refl

pub flag_or_not : (q r f : Bool) → HasBit 1 (word_of q r f) ⊎ LacksBit 1 (word_of q r f)
flag_or_not true true true = inl refl
flag_or_not true true false = inr refl
flag_or_not true false true = inl refl
flag_or_not true false false = inr refl
flag_or_not false true true = inl refl
flag_or_not false true false = inr refl
flag_or_not false false true = inl refl
flag_or_not false false false = inr refl

pub queued_or_not : (q r f : Bool) → HasBit 4 (word_of q r f) ⊎ LacksBit 4 (word_of q r f)
queued_or_not true true true = inl refl
queued_or_not true true false = inl refl
queued_or_not true false true = inl refl
queued_or_not true false false = inl refl
queued_or_not false true true = inr refl
queued_or_not false true false = inr refl
queued_or_not false false true = inr refl
queued_or_not false false false = inr refl

pub runs : (q f : Bool) → HasBit 2 (word_of q true f)
runs true true = refl
runs true false = refl
runs false true = refl
runs false false = refl

pub idles : (q f : Bool) → LacksBit 2 (word_of q false f)
idles true true = refl
idles true false = refl
idles false true = refl
idles false false = refl

-- RUNNING is not both set and not set
pub apart : (k : ℕ) → k ≡ 2 → k ≡ 0 → ⊥
apart k two none = absurd (omega arith)

pub in_range : {A : Type 0} → (l : List A) (i : ℕ) (a : A) → get_elem? l i ≡ some a → i < length l
in_range [] i a e = absurd (some-ne-none a (sym e))
in_range (x ∷ xs) zero a e = omega arith
in_range (x ∷ xs) (suc i) a e = let h = in_range xs i a e in omega arith

module _ {G E L : Type 0} where
  -- two views that say the same of the cell j
  pub record Alike (j : ℕ) (v w : View G E L) : Type 0 where
    pub seen : seen_of w j ≡ seen_of v j
    pub met : met_of w j ≡ met_of v j
    pub back : (log : List E) → w.turn ≡ Has j log → v.turn ≡ Has j log
    pub forth : (log : List E) → v.turn ≡ Has j log → w.turn ≡ Has j log

  within : (j : ℕ) (log : List E) (v w : View G E L) → Alike j v w → IsWithin j log v → IsWithin j log w
  within j log v w like is = (subst (λ (xs : List E). IsPrefix xs log) (sym like.seen) is.0, subst (λ (xs : List E). IsPrefix xs log) (sym like.met) is.1)

  pub seats_out-set : (views : List (View G E L)) (id : ℕ) (v w : View G E L) → get_elem? views id ≡ some v → out_count w.role ≡ out_count v.role → seats_out (set views id w) ≡ seats_out views
  seats_out-set [] id v w at same = absurd (some-ne-none v (sym at))
  seats_out-set (x ∷ xs) zero v w at same = ap (λ (k : ℕ). k + seats_out xs) (same ∙ ap (λ (y : View G E L). out_count y.role) (sym (some-injective x v at)))
  seats_out-set (x ∷ xs) (suc id) v w at same = ap (λ (k : ℕ). out_count x.role + k) (seats_out-set xs id v w at same)

module _ {C G E L : Type 0} (tag : C → G) (lawful : C → Type 0) (history : C → List E) where
  -- a seat's step that says the same of the cell j
  pub lane_alike : (views : List (View G E L)) (id : ℕ) (v w : View G E L) (j n : ℕ) (h : SlotState C) (t : G) → get_elem? views id ≡ some v → Alike j v w → Lane tag lawful history views j n h t → Lane tag lawful history (set views id w) j n h t
  lane_alike views id v w j n h t at like (inl x) = inl (record {
    queued = x.queued;
    flag = x.flag;
    word_is = x.word_is;
    cell = x.cell;
    there = x.there;
    is_lawful = x.is_lawful;
    is_tagged = x.is_tagged;
    each = λ i u e. ⊎_elim
        (λ (same : (i ≡ id) × (w ≡ u)). let was = x.each id v at in subst (λ (y : View G E L). IsWithin j (history x.cell) y × ((log : List E) → ¬ (y.turn ≡ Has j log))) same.1 (within j (history x.cell) v w like was.0, λ log has. was.1 log (like.back log has)))
        (λ (other : (i ≢ id) × (get_elem? views i ≡ some u)). x.each i u other.1)
        (at_set views id i w u e);
  })
  lane_alike views id v w j n h t at like (inr x) = let there : (y : View G E L) × (get_elem? (set views id w) x.holder ≡ some y) × (y.turn ≡ Has j x.log) = found (ℕ_discrete x.holder id) in inr (record {
    queued = x.queued;
    flag = x.flag;
    word_is = x.word_is;
    gone = x.gone;
    holder = x.holder;
    view = there.0;
    log = x.log;
    at = there.1;
    has = there.2;
    each = λ i u e. ⊎_elim
        (λ (same : (i ≡ id) × (w ≡ u)). let was = x.each id v at in subst (λ (y : View G E L). IsWithin j x.log y × ((log : List E) → y.turn ≡ Has j log → i ≡ x.holder)) same.1 (within j x.log v w like was.0, λ log has. same.0 ∙ was.1 log (like.back log has)))
        (λ (other : (i ≢ id) × (get_elem? views i ≡ some u)). x.each i u other.1)
        (at_set views id i w u e);
  })
    where
      found : Dec (x.holder ≡ id) → (y : View G E L) × (get_elem? (set views id w) x.holder ≡ some y) × (y.turn ≡ Has j x.log)
      found (yes e) = (w, subst (λ (k : ℕ). get_elem? (set views id w) k ≡ some w) (sym e) (set_here views id w (in_range views id v at)), like.forth x.log (ap (λ (y : View G E L). y.turn) (some-injective v x.view (sym at ∙ (ap (get_elem? views) (sym e) ∙ x.at))) ∙ x.has))
      found (no n) = (x.view, set_else views id x.holder w n ∙ x.at, x.has)

  pub lane_flag : (views : List (View G E L)) (j n : ℕ) (h : SlotState C) (t : G) → Lane tag lawful history views j n h t → Lane tag lawful history views j (bit_or n 1) h t
  lane_flag views j n h t (inl x) = inl (record { queued = x.queued; flag = true; word_is = ap (λ (k : ℕ). bit_or k 1) x.word_is ∙ or_flag x.queued false x.flag; cell = x.cell; there = x.there; is_lawful = x.is_lawful; is_tagged = x.is_tagged; each = x.each })
  lane_flag views j n h t (inr x) = inr (record { queued = x.queued; flag = true; word_is = ap (λ (k : ℕ). bit_or k 1) x.word_is ∙ or_flag x.queued true x.flag; gone = x.gone; holder = x.holder; view = x.view; log = x.log; at = x.at; has = x.has; each = x.each })

  pub lane_clear : (views : List (View G E L)) (j n : ℕ) (h : SlotState C) (t : G) → Lane tag lawful history views j n h t → Lane tag lawful history views j (bit_and n 18446744073709551614) h t
  lane_clear views j n h t (inl x) = inl (record { queued = x.queued; flag = false; word_is = ap (λ (k : ℕ). bit_and k 18446744073709551614) x.word_is ∙ and_flag x.queued false x.flag; cell = x.cell; there = x.there; is_lawful = x.is_lawful; is_tagged = x.is_tagged; each = x.each })
  lane_clear views j n h t (inr x) = inr (record { queued = x.queued; flag = false; word_is = ap (λ (k : ℕ). bit_and k 18446744073709551614) x.word_is ∙ and_flag x.queued true x.flag; gone = x.gone; holder = x.holder; view = x.view; log = x.log; at = x.at; has = x.has; each = x.each })

  pub lane_mark : (views : List (View G E L)) (j n : ℕ) (h : SlotState C) (t : G) → Lane tag lawful history views j n h t → Lane tag lawful history views j (bit_or n 4) h t
  lane_mark views j n h t (inl x) = inl (record { queued = true; flag = x.flag; word_is = ap (λ (k : ℕ). bit_or k 4) x.word_is ∙ or_queued x.queued false x.flag; cell = x.cell; there = x.there; is_lawful = x.is_lawful; is_tagged = x.is_tagged; each = x.each })
  lane_mark views j n h t (inr x) = inr (record { queued = true; flag = x.flag; word_is = ap (λ (k : ℕ). bit_or k 4) x.word_is ∙ or_queued x.queued true x.flag; gone = x.gone; holder = x.holder; view = x.view; log = x.log; at = x.at; has = x.has; each = x.each })

  pub lane_unmark : (views : List (View G E L)) (j n : ℕ) (h : SlotState C) (t : G) → Lane tag lawful history views j n h t → Lane tag lawful history views j (bit_and n 18446744073709551611) h t
  lane_unmark views j n h t (inl x) = inl (record { queued = false; flag = x.flag; word_is = ap (λ (k : ℕ). bit_and k 18446744073709551611) x.word_is ∙ and_queued x.queued false x.flag; cell = x.cell; there = x.there; is_lawful = x.is_lawful; is_tagged = x.is_tagged; each = x.each })
  lane_unmark views j n h t (inr x) = inr (record { queued = false; flag = x.flag; word_is = ap (λ (k : ℕ). bit_and k 18446744073709551611) x.word_is ∙ and_queued x.queued true x.flag; gone = x.gone; holder = x.holder; view = x.view; log = x.log; at = x.at; has = x.has; each = x.each })

  -- the word has a bit QUEUED or not
  pub lane_queued : (views : List (View G E L)) (j n : ℕ) (h : SlotState C) (t : G) → Lane tag lawful history views j n h t → HasBit 4 n ⊎ LacksBit 4 n
  lane_queued views j n h t (inl x) = subst (λ (k : ℕ). HasBit 4 k ⊎ LacksBit 4 k) (sym x.word_is) (queued_or_not x.queued false x.flag)
  lane_queued views j n h t (inr x) = subst (λ (k : ℕ). HasBit 4 k ⊎ LacksBit 4 k) (sym x.word_is) (queued_or_not x.queued true x.flag)

  pub lane_flagged : (views : List (View G E L)) (j n : ℕ) (h : SlotState C) (t : G) → Lane tag lawful history views j n h t → HasBit 1 n ⊎ LacksBit 1 n
  lane_flagged views j n h t (inl x) = subst (λ (k : ℕ). HasBit 1 k ⊎ LacksBit 1 k) (sym x.word_is) (flag_or_not x.queued false x.flag)
  lane_flagged views j n h t (inr x) = subst (λ (k : ℕ). HasBit 1 k ⊎ LacksBit 1 k) (sym x.word_is) (flag_or_not x.queued true x.flag)

  pub lane_bits : (views : List (View G E L)) (j n : ℕ) (h : SlotState C) (t : G) → Lane tag lawful history views j n h t → BitsAfter n
  lane_bits views j n h t (inl x) = subst BitsAfter (sym x.word_is) (bits_after x.queued false x.flag)
  lane_bits views j n h t (inr x) = subst BitsAfter (sym x.word_is) (bits_after x.queued true x.flag)
