-- The first fault does not depend on the order of the faults: it is the least by its place and its cause.
use Rattle.std.proofs.Common.{◌≡◌, ◌∙◌, ◌+◌, ◌*◌, ◌<◌, ◌≤◌, ℕ, Bool, true, false, cond, ◌||◌, ◌&&◌, List, [], ◌∷◌, Option, None, Some, refl, sym, ap, arith}
use Rattle.std.specs.Prelude.{◌==◌, nat_lt, if◌then◌else◌}
use Rattle.std.proofs.lemmas.Bool.Decides.{nat_tests}
use Rattle.script_grammar.specs.declared.fault.ScriptCause.{ScriptCause}
use Rattle.script_grammar.specs.declared.fault.ScriptCause.TheVariants.{NotText, BadToken, BadSyntax, TooMany, TwiceDeclared, UnknownMessage, UnknownActor, UnknownName, WrongCount, WrongType, StopNotLast, BadWindow, BadReply}
use Rattle.script_faults.specs.declared.first.Fault.{Fault}
use Rattle.script_faults.specs.First.{earlier, first_of, is_before, rank}

-- ---- a fault as a number

-- the cause of a rank
abbrev cause_at : ℕ → ScriptCause
cause_at n =
    if n == 0 then TooMany
    else if n == 1 then TwiceDeclared
    else if n == 2 then UnknownMessage
    else if n == 3 then UnknownActor
    else if n == 4 then UnknownName
    else if n == 5 then WrongCount
    else if n == 6 then WrongType
    else if n == 7 then StopNotLast
    else if n == 8 then BadWindow
    else if n == 9 then BadReply
    else if n == 10 then NotText
    else if n == 11 then BadToken
    else BadSyntax

cause_back : (c : ScriptCause) → cause_at (rank c) ≡ c
cause_back TooMany = refl
cause_back TwiceDeclared = refl
cause_back UnknownMessage = refl
cause_back UnknownActor = refl
cause_back UnknownName = refl
cause_back WrongCount = refl
cause_back WrongType = refl
cause_back StopNotLast = refl
cause_back BadWindow = refl
cause_back BadReply = refl
cause_back NotText = refl
cause_back BadToken = refl
cause_back BadSyntax = refl

rank_low : (c : ScriptCause) → rank c < 16
rank_low TooMany = omega arith
rank_low TwiceDeclared = omega arith
rank_low UnknownMessage = omega arith
rank_low UnknownActor = omega arith
rank_low UnknownName = omega arith
rank_low WrongCount = omega arith
rank_low WrongType = omega arith
rank_low StopNotLast = omega arith
rank_low BadWindow = omega arith
rank_low BadReply = omega arith
rank_low NotText = omega arith
rank_low BadToken = omega arith
rank_low BadSyntax = omega arith

abbrev key : Fault → ℕ
key f = f.place * 16 + rank f.cause

abbrev before : ℕ → ℕ → ℕ → ℕ → Bool
before place rank other other_rank = nat_lt place other || (place == other && nat_lt rank other_rank)

before_true : (p r q s : ℕ) → r < 16 → s < 16 → before p r q s ≡ true → p * 16 + r < q * 16 + s
before_true p r q s low other is = grind (arith, nat_tests)

before_false : (p r q s : ℕ) → r < 16 → s < 16 → before p r q s ≡ false → q * 16 + s ≤ p * 16 + r
before_false p r q s low other is = grind (arith, nat_tests)

is_less : (a b : Fault) → is_before a b ≡ true → key a < key b
is_less a b is = before_true a.place (rank a.cause) b.place (rank b.cause) (rank_low a.cause) (rank_low b.cause) is

is_no_less : (a b : Fault) → is_before a b ≡ false → key b ≤ key a
is_no_less a b is = before_false a.place (rank a.cause) b.place (rank b.cause) (rank_low a.cause) (rank_low b.cause) is

not_before : (a b : Fault) → key b ≤ key a → is_before a b ≡ false
not_before a b le = by (is_before a b) refl
  where
    by : (t : Bool) → is_before a b ≡ t → t ≡ false
    by false is = refl
    by true is = absurd (omega (arith, le, is_less a b is))

place_same : (p r q s : ℕ) → r < 16 → s < 16 → p * 16 + r ≡ q * 16 + s → p ≡ q
place_same p r q s low other same = omega (arith, low, other, same)

rank_same : (p r q s : ℕ) → r < 16 → s < 16 → p * 16 + r ≡ q * 16 + s → r ≡ s
rank_same p r q s low other same = omega (arith, low, other, same)

-- two faults of one number are one
one_fault : (a b : Fault) → key a ≡ key b → a ≡ b
one_fault a b same =
    let place = place_same a.place (rank a.cause) b.place (rank b.cause) (rank_low a.cause) (rank_low b.cause) same in
    let ranks = rank_same a.place (rank a.cause) b.place (rank b.cause) (rank_low a.cause) (rank_low b.cause) same in
    let cause : a.cause ≡ b.cause = sym (cause_back a.cause) ∙ ap cause_at ranks ∙ cause_back b.cause in
    λ i. record { place = place i; cause = cause i }

-- ---- two faults

both_ways : (a b : Fault) → earlier (Some a) b ≡ earlier (Some b) a
both_ways a b = by (is_before b a) (is_before a b) refl refl
  where
    by : (r s : Bool) → is_before b a ≡ r → is_before a b ≡ s → cond r (Some b) (Some a) ≡ cond s (Some a) (Some b)
    by true true first second = absurd (omega (arith, is_less b a first, is_less a b second))
    by true false first second = refl
    by false true first second = refl
    by false false first second = let same : key a ≡ key b = omega (arith, is_no_less b a first, is_no_less a b second) in ap (λ (f : Fault). Some f) (one_fault a b same)

earlier_swap : (found : Option Fault) (a b : Fault) → earlier (earlier found a) b ≡ earlier (earlier found b) a
earlier_swap None a b = both_ways a b
earlier_swap (Some x) a b = by (is_before a x) (is_before b x) refl refl
  where
    by : (p q : Bool) → is_before a x ≡ p → is_before b x ≡ q → earlier (cond p (Some a) (Some x)) b ≡ earlier (cond q (Some b) (Some x)) a
    by true true first second = both_ways a b
    by true false first second =
        let later : is_before b a ≡ false = not_before b a (omega (arith, is_less a x first, is_no_less b x second)) in
        ap (λ (t : Bool). cond t (Some b) (Some a)) later ∙ ap (λ (t : Bool). cond t (Some a) (Some x)) (sym first)
    by false true first second =
        let later : is_before a b ≡ false = not_before a b (omega (arith, is_no_less a x first, is_less b x second)) in
        ap (λ (t : Bool). cond t (Some b) (Some x)) second ∙ ap (λ (t : Bool). cond t (Some a) (Some b)) (sym later)
    by false false first second = ap (λ (t : Bool). cond t (Some b) (Some x)) second ∙ ap (λ (t : Bool). cond t (Some a) (Some x)) (sym first)

-- ---- two lists

past_one : (found : Option Fault) (a : Fault) (faults : List Fault) → first_of (earlier found a) faults ≡ earlier (first_of found faults) a
past_one found a [] = refl
past_one found a (b ∷ faults) = ap (λ (o : Option Fault). first_of o faults) (earlier_swap found a b) ∙ past_one (earlier found b) a faults

pub first_of-swap : (found : Option Fault) (faults others : List Fault) → first_of (first_of found faults) others ≡ first_of (first_of found others) faults
first_of-swap found [] others = refl
first_of-swap found (a ∷ faults) others =
    first_of-swap (earlier found a) faults others ∙ ap (λ (o : Option Fault). first_of o faults) (past_one found a others)
