-- Where no window and no reply has a fault, their numbers are within their bounds, and no two replies of a body name one pattern.
use Rattle.std.proofs.Common.{◌≡◌, ◌⊎◌, inl, inr, ℕ, ℤ, ◌-◌, ◌≤◌, Bool, true, false, not, ◌&&◌, ◌||◌, ◌==◌, List, [], ◌∷◌, ◌++◌, map, refl, arith}
use Rattle.std.specs.Prelude.{nat_le, unsigned_abs}
use Rattle.std.specs.List.{AllByRecursion, IsDistinct, filter_map, list_any}
use Rattle.std.proofs.lemmas.Bool.{leb-true, not-true, and_parts}
use Rattle.std.proofs.lemmas.Bool.Decides.{nat_tests}
use Rattle.script_grammar.specs.declared.fault.ScriptCause.{ScriptCause}
use Rattle.script_grammar.specs.declared.fault.ScriptCause.TheVariants.{BadReply, BadWindow}
use Rattle.script_grammar.specs.declared.tree.StatementDecl.{StatementDecl}
use Rattle.script_grammar.specs.declared.tree.StatementDecl.TheVariants as s
use Rattle.script_grammar.specs.declared.tree.Tree.{Tree}
use Rattle.script_names.specs.Scope.{Variable}
use Rattle.script_types.specs.Typed.{ReplyOnce, replied_by}
use Rattle.script_faults.specs.First.{fault_if}
use Rattle.script_faults.specs.Faults.{is_window, may_reply, reply_faults}
use Rattle.script_plan.specs.PlanOf.{statement_of}

-- ---- where a list of faults is empty, so are its parts

pub left_none : {X : Type 0} (xs ys : List X) → xs ++ ys ≡ [] → xs ≡ []
left_none [] ys is = refl
left_none (x ∷ xs) ys is = absurd cc

pub right_none : {X : Type 0} (xs ys : List X) → xs ++ ys ≡ [] → ys ≡ []
right_none [] ys is = is
right_none (x ∷ xs) ys is = absurd cc

-- what was tested is so
tested : (b : Bool) (cause : ScriptCause) (place : ℕ) → fault_if (not b) cause place ≡ [] → b ≡ true
tested true cause place none = refl
tested false cause place none = absurd cc

-- ---- windows

pub window_fits : (number : ℕ × ℤ) → fault_if (not (is_window (unsigned_abs number.1))) BadWindow number.0 ≡ [] → (1 ≤ unsigned_abs number.1) × (unsigned_abs number.1 ≤ 1000000)
window_fits number none =
    let n = unsigned_abs number.1 in
    let both = and_parts (nat_le 1 n) (nat_le n 1000000) (tested (is_window n) BadWindow number.0 none) in
    (leb-true 1 n both.0, leb-true n 1000000 both.1)

-- ---- replies

-- a reply names one of so many patterns
abbrev pub NumberFits : ℕ → StatementDecl → Type 0
NumberFits patterns (s.Print place items) = Unit {0}
NumberFits patterns (s.Post place target kind operands) = Unit {0}
NumberFits patterns (s.Stop place) = Unit {0}
NumberFits patterns (s.Reply place number_place number operand) = (1 ≤ unsigned_abs number) × (unsigned_abs number ≤ patterns)

record Allowed (patterns : ℕ) (earlier : List ℕ) (number : ℕ) : Type 0 where
  some : 1 ≤ number
  few : number ≤ patterns
  new : list_any (λ other. number == other) earlier ≡ false

allowed : (patterns : ℕ) (earlier : List ℕ) (number place : ℕ) → fault_if (not (may_reply patterns earlier number)) BadReply place ≡ [] → Allowed patterns earlier number
allowed patterns earlier number place none =
    let is_named = list_any (λ other. number == other) earlier in
    let one = and_parts (nat_le 1 number) (nat_le number patterns && not is_named) (tested (may_reply patterns earlier number) BadReply place none) in
    let two = and_parts (nat_le number patterns) (not is_named) one.1 in
    record { some = leb-true 1 number one.0; few = leb-true number patterns two.0; new = not-true is_named two.1 }

pub numbers_fit : (patterns : ℕ) (earlier : List ℕ) (body : List StatementDecl) → reply_faults patterns earlier body ≡ [] → AllByRecursion (NumberFits patterns) body
numbers_fit patterns earlier [] none = tt
numbers_fit patterns earlier (s.Print place items ∷ body) none = (tt, numbers_fit patterns earlier body none)
numbers_fit patterns earlier (s.Post place target kind operands ∷ body) none = (tt, numbers_fit patterns earlier body none)
numbers_fit patterns earlier (s.Stop place ∷ body) none = (tt, numbers_fit patterns earlier body none)
numbers_fit patterns earlier (s.Reply place number_place number operand ∷ body) none =
    let n = unsigned_abs number in
    let here = fault_if (not (may_reply patterns earlier n)) BadReply number_place in
    let others = reply_faults patterns (n ∷ earlier) body in
    let may = allowed patterns earlier n number_place (left_none here others none) in
    ((may.some, may.few), numbers_fit patterns (n ∷ earlier) body (right_none here others none))

-- a number is one of these
abbrev Among : ℕ → List ℕ → Type 0
Among number [] = ⊥
Among number (other ∷ others) = (number ≡ other) ⊎ Among number others

other_number : (new number other : ℕ) (b : Bool) → number ≡ other → (new == other || b) ≡ false → (new == number) ≡ false
other_number new number other b same is = grind (arith, nat_tests)

both_false : (a b : Bool) → (a || b) ≡ false → b ≡ false
both_false true b is = absurd cc
both_false false b is = is

new_number : (new number : ℕ) (earlier : List ℕ) → Among number earlier → list_any (λ other. new == other) earlier ≡ false → (new == number) ≡ false
new_number new number [] among is = absurd among
new_number new number (other ∷ others) (inl same) is = other_number new number other (list_any (λ o. new == o) others) same is
new_number new number (other ∷ others) (inr among) is = new_number new number others among (both_false (new == other) (list_any (λ o. new == o) others) is)

-- numbers from 1 that differ still differ when they are counted from 0
from_zero : (new number : ℕ) → 1 ≤ new → 1 ≤ number → (new == number) ≡ false → (number - 1 == new - 1) ≡ false
from_zero new number some other apart = grind (arith, nat_tests)

module _ (tree : Tree) (variables : List Variable) (patterns : ℕ) where
  abbrev replied : List StatementDecl → List ℕ
  replied body = filter_map replied_by (map (statement_of tree variables) body)

  others_apart : (number : ℕ) → 1 ≤ number → (earlier : List ℕ) → Among number earlier → (body : List StatementDecl) → reply_faults patterns earlier body ≡ []
      → AllByRecursion (λ (other : ℕ). (number - 1 == other) ≡ false) (replied body)
  others_apart number some earlier among [] none = tt
  others_apart number some earlier among (s.Print place items ∷ body) none = others_apart number some earlier among body none
  others_apart number some earlier among (s.Post place target kind operands ∷ body) none = others_apart number some earlier among body none
  others_apart number some earlier among (s.Stop place ∷ body) none = others_apart number some earlier among body none
  others_apart number some earlier among (s.Reply place number_place new operand ∷ body) none =
      let n = unsigned_abs new in
      let here = fault_if (not (may_reply patterns earlier n)) BadReply number_place in
      let others = reply_faults patterns (n ∷ earlier) body in
      let may = allowed patterns earlier n number_place (left_none here others none) in
      (from_zero n number may.some some (new_number n number earlier among may.new), others_apart number some (n ∷ earlier) (inr among) body (right_none here others none))

  pub replies_once : (earlier : List ℕ) (body : List StatementDecl) → reply_faults patterns earlier body ≡ [] → ReplyOnce (map (statement_of tree variables) body)
  unfolding IsDistinct
  replies_once earlier [] none = tt
  replies_once earlier (s.Print place items ∷ body) none = replies_once earlier body none
  replies_once earlier (s.Post place target kind operands ∷ body) none = replies_once earlier body none
  replies_once earlier (s.Stop place ∷ body) none = replies_once earlier body none
  replies_once earlier (s.Reply place number_place number operand ∷ body) none =
      let n = unsigned_abs number in
      let here = fault_if (not (may_reply patterns earlier n)) BadReply number_place in
      let others = right_none here (reply_faults patterns (n ∷ earlier) body) none in
      let may = allowed patterns earlier n number_place (left_none here (reply_faults patterns (n ∷ earlier) body) none) in
      (others_apart n may.some (n ∷ earlier) (inl refl) body others, replies_once (n ∷ earlier) body others)
