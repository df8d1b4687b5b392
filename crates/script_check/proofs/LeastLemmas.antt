-- The first fault of a list is its least.
use Rattle.std.proofs.Common.{◌≡◌, ℕ, zero, suc, Bool, true, false, cond, ◌⊎◌, inl, inr, List, [], ◌∷◌, None, Some, refl, sym, ap, ◌∙◌, subst, arith}
use Rattle.std.specs.Prelude.{◌&&◌, ◌||◌, ◌==◌, nat_lt, Contains}
use Rattle.std.specs.List.{AllByRecursion}
use Rattle.std.proofs.lemmas.Bool.Decides.{nat_tests}
use Rattle.std.proofs.lemmas.Option.{same_Some}
use Rattle.script_grammar.specs.declared.fault.ScriptCause.{ScriptCause}
use Rattle.script_grammar.specs.declared.fault.ScriptCause.TheVariants.{NotText, BadToken, BadSyntax, TooMany, TwiceDeclared, UnknownMessage, UnknownActor, UnknownName, WrongCount, WrongType, StopNotLast, BadWindow, BadReply}
use Rattle.script_faults.specs.declared.first.Fault.{Fault}
use Rattle.script_faults.specs.First.{first_of, is_before, rank}

-- ---- the order of places and ranks

abbrev before : ℕ → ℕ → ℕ → ℕ → Bool
before place rank other other_rank = nat_lt place other || (place == other && nat_lt rank other_rank)

before_self : (p r : ℕ) → before p r p r ≡ false
before_self p r = grind (arith, nat_tests)

before_back : (p r q s : ℕ) → before p r q s ≡ true → before q s p r ≡ false
before_back p r q s is = grind (arith, nat_tests)

before_through : (p r q s u v : ℕ) → before p r q s ≡ false → before q s u v ≡ false → before p r u v ≡ false
before_through p r q s u v one other = grind (arith, nat_tests)

before_neither : (p r q s : ℕ) → before p r q s ≡ false → before q s p r ≡ false → (p ≡ q) × (r ≡ s)
before_neither p r q s one other = (grind (arith, nat_tests), grind (arith, nat_tests))

not_before-self : (f : Fault) → is_before f f ≡ false
not_before-self f = before_self f.place (rank f.cause)

not_before-back : (f g : Fault) → is_before f g ≡ true → is_before g f ≡ false
not_before-back f g is = before_back f.place (rank f.cause) g.place (rank g.cause) is

not_before-through : (f g h : Fault) → is_before f g ≡ false → is_before g h ≡ false → is_before f h ≡ false
not_before-through f g h one other = before_through f.place (rank f.cause) g.place (rank g.cause) h.place (rank h.cause) one other

-- ---- a rank has one cause

-- the cause of a rank
abbrev cause_at : ℕ → ScriptCause
cause_at zero = TooMany
cause_at (suc zero) = TwiceDeclared
cause_at (suc (suc zero)) = UnknownMessage
cause_at (suc (suc (suc zero))) = UnknownActor
cause_at (suc (suc (suc (suc zero)))) = UnknownName
cause_at (suc (suc (suc (suc (suc zero))))) = WrongCount
cause_at (suc (suc (suc (suc (suc (suc zero)))))) = WrongType
cause_at (suc (suc (suc (suc (suc (suc (suc zero))))))) = StopNotLast
cause_at (suc (suc (suc (suc (suc (suc (suc (suc zero)))))))) = BadWindow
cause_at (suc (suc (suc (suc (suc (suc (suc (suc (suc zero))))))))) = BadReply
cause_at (suc (suc (suc (suc (suc (suc (suc (suc (suc (suc zero)))))))))) = NotText
cause_at (suc (suc (suc (suc (suc (suc (suc (suc (suc (suc (suc zero))))))))))) = BadToken
cause_at (suc (suc (suc (suc (suc (suc (suc (suc (suc (suc (suc (suc n)))))))))))) = BadSyntax

cause_at-rank : (c : ScriptCause) → cause_at (rank c) ≡ c
cause_at-rank TooMany = refl
cause_at-rank TwiceDeclared = refl
cause_at-rank UnknownMessage = refl
cause_at-rank UnknownActor = refl
cause_at-rank UnknownName = refl
cause_at-rank WrongCount = refl
cause_at-rank WrongType = refl
cause_at-rank StopNotLast = refl
cause_at-rank BadWindow = refl
cause_at-rank BadReply = refl
cause_at-rank NotText = refl
cause_at-rank BadToken = refl
cause_at-rank BadSyntax = refl

-- two faults of which none comes before the other are one
pub one_fault : (f g : Fault) → is_before f g ≡ false → is_before g f ≡ false → (f.place ≡ g.place) × (f.cause ≡ g.cause)
one_fault f g one other =
    let same = before_neither f.place (rank f.cause) g.place (rank g.cause) one other in
    (same.0, sym (cause_at-rank f.cause) ∙ ap cause_at same.1 ∙ cause_at-rank g.cause)

-- ---- the first fault

pub record IsLeast (first chosen : Fault) (faults : List Fault) : Type 0 where
  pub stands : (chosen ≡ first) ⊎ Contains faults chosen
  pub first_after : is_before first chosen ≡ false
  pub others_after : AllByRecursion (λ (g : Fault). is_before g chosen ≡ false) faults

behind : (g : Fault) (gs : List Fault) (f : Fault) → Contains gs f → Contains (g ∷ gs) f
behind g gs f c = (suc c.0, omega (arith, c.1), c.2)

at_head : (g : Fault) (gs : List Fault) (f : Fault) → f ≡ g → Contains (g ∷ gs) f
at_head g gs f is = (0, omega arith, sym is)

taken : (g : Fault) (gs : List Fault) (f : Fault) → (f ≡ g) ⊎ Contains gs f → Contains (g ∷ gs) f
taken g gs f (inl is) = at_head g gs f is
taken g gs f (inr c) = behind g gs f c

kept : (first g : Fault) (gs : List Fault) (f : Fault) → (f ≡ first) ⊎ Contains gs f → (f ≡ first) ⊎ Contains (g ∷ gs) f
kept first g gs f (inl is) = inl is
kept first g gs f (inr c) = inr (behind g gs f c)

least : (first : Fault) (faults : List Fault) (f : Fault) → first_of (Some first) faults ≡ Some f → IsLeast first f faults
least first [] f is =
    let same : first ≡ f = same_Some first f is in
    record { stands = inl (sym same); first_after = subst (λ (x : Fault). is_before first x ≡ false) same (not_before-self first); others_after = tt }
least first (g ∷ gs) f is = by-test (is_before g first) refl is (least g gs f) (least first gs f)
  where
    by-test : (b : Bool) → is_before g first ≡ b → first_of (cond b (Some g) (Some first)) gs ≡ Some f → (first_of (Some g) gs ≡ Some f → IsLeast g f gs)
        → (first_of (Some first) gs ≡ Some f → IsLeast first f gs) → IsLeast first f (g ∷ gs)
    by-test true test is new old =
        let l = new is in
        record { stands = inr (taken g gs f l.stands); first_after = not_before-through first g f (not_before-back g first test) l.first_after; others_after = (l.first_after, l.others_after) }
    by-test false test is new old =
        let l = old is in
        record { stands = kept first g gs f l.stands; first_after = l.first_after; others_after = (not_before-through g first f test l.first_after, l.others_after) }

some_first : (first : Fault) (faults : List Fault) → first_of (Some first) faults ≡ None → ⊥
some_first first [] is = absurd cc
some_first first (g ∷ gs) is = by-test (is_before g first) is (some_first g gs) (some_first first gs)
  where
    by-test : (b : Bool) → first_of (cond b (Some g) (Some first)) gs ≡ None → (first_of (Some g) gs ≡ None → ⊥) → (first_of (Some first) gs ≡ None → ⊥) → ⊥
    by-test true is new old = new is
    by-test false is new old = old is

-- where no fault is first there is none
pub none_first : (faults : List Fault) → first_of None faults ≡ None → faults ≡ []
none_first [] is = refl
none_first (f ∷ fs) is = absurd (some_first f fs is)

pub record IsLeastOf (chosen : Fault) (faults : List Fault) : Type 0 where
  pub stands : Contains faults chosen
  pub least : AllByRecursion (λ (g : Fault). is_before g chosen ≡ false) faults

-- the first of some faults is one of them, and none comes before it
pub least_first : (faults : List Fault) (f : Fault) → first_of None faults ≡ Some f → IsLeastOf f faults
least_first [] f is = absurd cc
least_first (g ∷ gs) f is = let l = least g gs f is in record { stands = taken g gs f l.stands; least = (l.first_after, l.others_after) }

-- what holds of each item holds of one among them
pub at_member : (P : Fault → Type 0) (faults : List Fault) (f : Fault) → AllByRecursion P faults → Contains faults f → P f
at_member P [] f each c = absurd (omega (arith, c.1))
at_member P (g ∷ gs) f each (zero, within, is) = subst P is each.0
at_member P (g ∷ gs) f each (suc k, within, is) = at_member P gs f each.1 (k, omega (arith, within), is)
