-- Assignments of more numbers, and of fewer.
use Rattle.std.proofs.Common.{◌≡◌, ◌⊎◌, inl, inr, ◌∙◌, ℕ, zero, suc, ◌<◌, List, [], ◌∷◌, ◌++◌, length, slice_index, Bool, true, false, ◌&&◌, ◌||◌, Option, Some, None, refl, sym, ap, subst, arith}
use Rattle.std.specs.Prelude.{◌==◌}
use Rattle.std.specs.List.{filter, list_all}
use Rattle.std.proofs.lemmas.Bool.Decides.{nat_tests}
use Rattle.std.proofs.lemmas.Bool.{or_parts}
use Rattle.join_base.specs.declared.message.Message.{Message}
use Rattle.guard_eval.specs.Meaning.{Assignment, recorded_message}
use Rattle.guard_eval.proofs.ExtendLemmas.{both_true}
use Rattle.pattern_core.specs.Assigns.{MayTake, Assigns}
use Rattle.pattern_core.specs.Members.{IsIn}
use Rattle.pattern_core.specs.Matches.{is_of_kind, holds_number, slot_is, is_full}
use Rattle.pattern_core.specs.Suits.{IsRecorded}
use Rattle.pattern_core.proofs.MembersLemmas.{IsIn-append_left, IsIn-append_right, IsIn-append_cases, IsIn-filter, IsIn-filter_from}
use Rattle.tree_rows.specs.Routes.{with_number}
use Rattle.row_screens.specs.Offers.{is_free}
use Rattle.tree_law.proofs.EvalLemmas.{AreRecorded}

pub both_of : (a b : Bool) → a ≡ true → b ≡ true → (a && b) ≡ true
both_of true b p q = q
both_of false b p q = p

neither : (a b : Bool) → a ≡ false → b ≡ false → (a || b) ≡ false
neither false b p q = q
neither true b p q = p

turned : (n k : ℕ) → (n == k) ≡ false → (k == n) ≡ false
turned n k h = grind (arith, nat_tests)

other : (n k : ℕ) → (n == k) ≡ false → n ≡ k → ⊥
other n k h e = grind (arith, nat_tests)

unequal : (n k : ℕ) → (n ≡ k → ⊥) → (n == k) ≡ false
unequal n k h = grind (arith, nat_tests)

-- a free pattern is an empty one
pub free_not_full : (slots : Assignment) (p : ℕ) → is_free slots p ≡ true → is_full slots ≡ false
free_not_full [] p h = absurd cc
free_not_full (None ∷ slots) p h = refl
free_not_full (Some k ∷ slots) zero h = absurd cc
free_not_full (Some k ∷ slots) (suc p) h = free_not_full slots p h

holds_less : (slots : Assignment) (p m k : ℕ) → is_free slots p ≡ true → holds_number (with_number slots p m) k ≡ false → holds_number slots k ≡ false
holds_less [] p m k free h = refl
holds_less (None ∷ slots) zero m k free h = (or_parts (k == m) (holds_number slots k) h).1
holds_less (Some j ∷ slots) zero m k free h = absurd cc
holds_less (slot ∷ slots) (suc p) m k free h =
    let parts = or_parts (slot_is k slot) (holds_number (with_number slots p m) k) h in
    neither (slot_is k slot) (holds_number slots k) parts.0 (holds_less slots p m k free parts.1)

holds_more : (slots : Assignment) (p m k : ℕ) → holds_number slots k ≡ false → (k == m) ≡ false → holds_number (with_number slots p m) k ≡ false
holds_more [] p m k h e = h
holds_more (slot ∷ slots) zero m k h e = neither (k == m) (holds_number slots k) e (or_parts (slot_is k slot) (holds_number slots k) h).1
holds_more (slot ∷ slots) (suc p) m k h e =
    let parts = or_parts (slot_is k slot) (holds_number slots k) h in
    neither (slot_is k slot) (holds_number (with_number slots p m) k) parts.0 (holds_more slots p m k parts.1 e)

module _ (messages : List Message) where
  pub Assigns-mono : (xs ys : List ℕ) → ((k : ℕ) → IsIn k xs → IsIn k ys) → (kinds : List ℕ) (slots : Assignment) → Assigns messages xs kinds slots → Assigns messages ys kinds slots
  Assigns-mono xs ys more [] [] h = tt
  Assigns-mono xs ys more [] (slot ∷ slots) h = h
  Assigns-mono xs ys more (kind ∷ kinds) [] h = h
  Assigns-mono xs ys more (kind ∷ kinds) (None ∷ slots) h = Assigns-mono xs ys more kinds slots h
  Assigns-mono xs ys more (kind ∷ kinds) (Some k ∷ slots) h = (record { is_live = more k h.0.is_live; of_kind = h.0.of_kind; apart = h.0.apart }, Assigns-mono xs ys more kinds slots h.1)

  pub Assigns-recorded : (xs : List ℕ) → ((k : ℕ) → IsIn k xs → IsRecorded messages k) → (kinds : List ℕ) (slots : Assignment) → Assigns messages xs kinds slots → AreRecorded messages slots
  Assigns-recorded xs recorded [] [] h = tt
  Assigns-recorded xs recorded [] (slot ∷ slots) h = absurd h
  Assigns-recorded xs recorded (kind ∷ kinds) [] h = absurd h
  Assigns-recorded xs recorded (kind ∷ kinds) (None ∷ slots) h = Assigns-recorded xs recorded kinds slots h
  Assigns-recorded xs recorded (kind ∷ kinds) (Some k ∷ slots) h = (recorded k h.0.is_live, Assigns-recorded xs recorded kinds slots h.1)

  -- with the same messages at these numbers
  pub Assigns-same : (others : List Message) (xs : List ℕ) → ((k : ℕ) → IsIn k xs → recorded_message messages k ≡ recorded_message others k) → (kinds : List ℕ) (slots : Assignment) → Assigns messages xs kinds slots → Assigns others xs kinds slots
  Assigns-same others xs same [] [] h = tt
  Assigns-same others xs same [] (slot ∷ slots) h = h
  Assigns-same others xs same (kind ∷ kinds) [] h = h
  Assigns-same others xs same (kind ∷ kinds) (None ∷ slots) h = Assigns-same others xs same kinds slots h
  Assigns-same others xs same (kind ∷ kinds) (Some k ∷ slots) h =
      (record { is_live = h.0.is_live; of_kind = subst (λ (m : Option Message). is_of_kind m kind ≡ true) (same k h.0.is_live) h.0.of_kind; apart = h.0.apart }, Assigns-same others xs same kinds slots h.1)

  pub Assigns-apart : (xs : List ℕ) (n : ℕ) → (IsIn n xs → ⊥) → (kinds : List ℕ) (slots : Assignment) → Assigns messages xs kinds slots → holds_number slots n ≡ false
  Assigns-apart xs n out [] [] h = refl
  Assigns-apart xs n out [] (slot ∷ slots) h = absurd h
  Assigns-apart xs n out (kind ∷ kinds) [] h = absurd h
  Assigns-apart xs n out (kind ∷ kinds) (None ∷ slots) h = Assigns-apart xs n out kinds slots h
  Assigns-apart xs n out (kind ∷ kinds) (Some k ∷ slots) h =
      neither (n == k) (holds_number slots n) (unequal n k (λ e. out (subst (λ (j : ℕ). IsIn j xs) (sym e) h.0.is_live))) (Assigns-apart xs n out kinds slots h.1)

-- assignments of the numbers that pass a test are those whose numbers all pass it
module _ (messages : List Message) (test : ℕ → Bool) (slot_test : Option ℕ → Bool) (empty : slot_test None ≡ true) (xs : List ℕ) (alike : (k : ℕ) → IsIn k xs → slot_test (Some k) ≡ test k) where
  pub passing : (kinds : List ℕ) (slots : Assignment) → Assigns messages (filter test xs) kinds slots → list_all slot_test slots ≡ true
  passing [] [] h = refl
  passing [] (slot ∷ slots) h = absurd h
  passing (kind ∷ kinds) [] h = absurd h
  passing (kind ∷ kinds) (None ∷ slots) h = both_of (slot_test None) (list_all slot_test slots) empty (passing kinds slots h)
  passing (kind ∷ kinds) (Some k ∷ slots) h =
      let at = IsIn-filter_from test k xs h.0.is_live in
      both_of (slot_test (Some k)) (list_all slot_test slots) (alike k at.0 ∙ at.1) (passing kinds slots h.1)

  pub passed : (kinds : List ℕ) (slots : Assignment) → Assigns messages xs kinds slots → list_all slot_test slots ≡ true → Assigns messages (filter test xs) kinds slots
  passed [] [] h pass = tt
  passed [] (slot ∷ slots) h pass = h
  passed (kind ∷ kinds) [] h pass = h
  passed (kind ∷ kinds) (None ∷ slots) h pass = passed kinds slots h (both_true (slot_test None) (list_all slot_test slots) pass).1
  passed (kind ∷ kinds) (Some k ∷ slots) h pass =
      let parts = both_true (slot_test (Some k)) (list_all slot_test slots) pass in (
        record { is_live = IsIn-filter test k xs (sym (alike k h.0.is_live) ∙ parts.0) h.0.is_live; of_kind = h.0.of_kind; apart = h.0.apart },
        passed kinds slots h.1 parts.1,
      )

module _ (messages : List Message) (xs : List ℕ) (n : ℕ) where
  -- the assignment has the number at one pattern, and others at the others
  pub record Takes (kinds : List ℕ) (slots : Assignment) : Type 0 where
    pub pattern : ℕ
    pub front : Assignment
    pub free : is_free front pattern ≡ true
    pub within : pattern < length kinds
    pub is : with_number front pattern n ≡ slots
    pub of_kind : is_of_kind (recorded_message messages n) (slice_index kinds pattern) ≡ true
    pub assigns : Assigns messages xs kinds front

  Assigns-less : (kinds : List ℕ) (slots : Assignment) → Assigns messages (xs ++ n ∷ []) kinds slots → holds_number slots n ≡ false → Assigns messages xs kinds slots
  Assigns-less [] [] h out = tt
  Assigns-less [] (slot ∷ slots) h out = h
  Assigns-less (kind ∷ kinds) [] h out = h
  Assigns-less (kind ∷ kinds) (None ∷ slots) h out = Assigns-less kinds slots h out
  Assigns-less (kind ∷ kinds) (Some k ∷ slots) h out =
      let parts = or_parts (n == k) (holds_number slots n) out in
      let among : IsIn k xs = elim (IsIn-append_cases k xs (n ∷ []) h.0.is_live) [ inl l ↦ l | inr r ↦ elim r [ inl e ↦ absurd (other n k parts.0 e) | inr f ↦ absurd f ] ] in
      (record { is_live = among; of_kind = h.0.of_kind; apart = h.0.apart }, Assigns-less kinds slots h.1 parts.1)

  takes_later : (kind : ℕ) (kinds : List ℕ) (slots : Assignment) (k : ℕ) → IsIn k xs → MayTake messages (xs ++ n ∷ []) kind slots k → Takes kinds slots → Takes (kind ∷ kinds) (Some k ∷ slots)
  takes_later kind kinds slots k among may t = record {
    pattern = suc t.pattern;
    front = Some k ∷ t.front;
    free = t.free;
    within = omega (arith, t.within);
    is = ap (λ (s : Assignment). Some k ∷ s) t.is;
    of_kind = t.of_kind;
    assigns = (
      record {
        is_live = among;
        of_kind = may.of_kind;
        apart = holds_less t.front t.pattern n k t.free (subst (λ (s : Assignment). holds_number s k ≡ false) (sym t.is) may.apart);
      },
      t.assigns,
    );
  }

  takes_here : (kind : ℕ) (kinds : List ℕ) (slots : Assignment) (k : ℕ) → n ≡ k → MayTake messages (xs ++ n ∷ []) kind slots k → Assigns messages (xs ++ n ∷ []) kinds slots → Takes (kind ∷ kinds) (Some k ∷ slots)
  takes_here kind kinds slots k e may h = record {
    pattern = 0;
    front = None ∷ slots;
    free = refl;
    within = omega arith;
    is = ap (λ (m : ℕ). Some m ∷ slots) e;
    of_kind = subst (λ (m : ℕ). is_of_kind (recorded_message messages m) kind ≡ true) (sym e) may.of_kind;
    assigns = Assigns-less kinds slots h (subst (λ (m : ℕ). holds_number slots m ≡ false) (sym e) may.apart);
  }

  -- an assignment with a further number has the number, or is one without it
  pub split : (kinds : List ℕ) (slots : Assignment) → Assigns messages (xs ++ n ∷ []) kinds slots → Assigns messages xs kinds slots ⊎ Takes kinds slots
  split [] [] h = inl tt
  split [] (slot ∷ slots) h = absurd h
  split (kind ∷ kinds) [] h = absurd h
  split (kind ∷ kinds) (None ∷ slots) h =
      elim (split kinds slots h) [
        | inl a ↦ inl a
        | inr t ↦
            inr (record {
              pattern = suc t.pattern;
              front = None ∷ t.front;
              free = t.free;
              within = omega (arith, t.within);
              is = ap (λ (s : Assignment). None ∷ s) t.is;
              of_kind = t.of_kind;
              assigns = t.assigns;
            })
      ]
  split (kind ∷ kinds) (Some k ∷ slots) h =
      elim (IsIn-append_cases k xs (n ∷ []) h.0.is_live) [
        | inl l ↦
            elim (split kinds slots h.1) [
              | inl a ↦ inl (record { is_live = l; of_kind = h.0.of_kind; apart = h.0.apart }, a)
              | inr t ↦ inr (takes_later kind kinds slots k l h.0 t)
            ]
        | inr r ↦ elim r [ inl e ↦ inr (takes_here kind kinds slots k e h.0 h.1) | inr f ↦ absurd f ]
      ]

  -- an assignment with the further number at a free pattern of its kind
  pub Assigns-further : (kinds : List ℕ) (slots : Assignment) (p : ℕ) → Assigns messages xs kinds slots → is_free slots p ≡ true → is_of_kind (recorded_message messages n) (slice_index kinds p) ≡ true → holds_number slots n ≡ false
      → Assigns messages (xs ++ n ∷ []) kinds (with_number slots p n)
  Assigns-further [] [] p h free kind_is out = absurd cc
  Assigns-further [] (slot ∷ slots) p h free kind_is out = absurd h
  Assigns-further (kind ∷ kinds) [] p h free kind_is out = absurd h
  Assigns-further (kind ∷ kinds) (Some k ∷ slots) zero h free kind_is out = absurd cc
  Assigns-further (kind ∷ kinds) (None ∷ slots) zero h free kind_is out = (
    record { is_live = IsIn-append_right n xs (n ∷ []) (inl refl); of_kind = kind_is; apart = out },
    Assigns-mono messages xs (xs ++ n ∷ []) (λ k m. IsIn-append_left k xs (n ∷ []) m) kinds slots h,
  )
  Assigns-further (kind ∷ kinds) (None ∷ slots) (suc p) h free kind_is out = Assigns-further kinds slots p h free kind_is out
  Assigns-further (kind ∷ kinds) (Some k ∷ slots) (suc p) h free kind_is out =
      let parts = or_parts (n == k) (holds_number slots n) out in (
        record { is_live = IsIn-append_left k xs (n ∷ []) h.0.is_live; of_kind = h.0.of_kind; apart = holds_more slots p n k h.0.apart (turned n k parts.0) },
        Assigns-further kinds slots p h.1 free kind_is parts.1,
      )
