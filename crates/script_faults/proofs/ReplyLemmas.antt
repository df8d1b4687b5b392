-- Which replies are wrong, from the marks of the patterns that are still open.
use Rattle.std.proofs.Common.{◌≡◌, ◌≢◌, ◌∙◌, ◌++◌, ℕ, zero, suc, ◌≤◌, ◌<◌, ◌-◌, Bool, true, false, not, ◌&&◌, ◌||◌, ◌==◌, List, [], ◌∷◌, get_or, slice_set, replicate, refl, sym, ap, arith}
use Rattle.std.specs.Prelude.{nat_le, unsigned_abs, if◌then◌else◌}
use Rattle.std.specs.List.{list_any}
use Rattle.std.proofs.lemmas.Bool.{eqb-true, eqb-false}
use Rattle.std.proofs.lemmas.Bool.Decides.{nat_tests}
use Rattle.std.proofs.lemmas.List.{length-replicate, get_or-replicate, get_or-set_other, get_or_past}
use Rattle.std.proofs.lemmas.Option.{unwrap_or-slice_get}
use Rattle.script_grammar.specs.declared.tree.StatementDecl.{StatementDecl}
use Rattle.script_grammar.specs.declared.tree.StatementDecl.TheVariants as statement
use Rattle.script_grammar.specs.declared.fault.ScriptCause.TheVariants.{BadReply}
use Rattle.script_faults.specs.First.{fault_if}
use Rattle.script_faults.specs.Faults.{may_reply, reply_faults}
use Rattle.script_faults.specs.Open.{closed, is_open, open_faults}

-- the marks say which of so many patterns may be replied to behind these replies
abbrev Stands : List Bool → ℕ → List ℕ → Type 0
Stands marks patterns earlier = (number : ℕ) → is_open marks number ≡ may_reply patterns earlier number

both_same : (b x y : Bool) → (b ≡ true → x ≡ y) → (b && x) ≡ (b && y)
both_same true x y same = same refl
both_same false x y same = refl

some_number : (number : ℕ) → nat_le 1 number ≡ true → 1 ≤ number
some_number number is = grind (arith, nat_tests)

all_marked : (patterns number : ℕ) (b : Bool) → nat_le number patterns ≡ b → 1 ≤ number → get_or (replicate patterns true) (number - 1) false ≡ (b && true)
all_marked patterns number true is some = let few : number ≤ patterns = grind (arith, nat_tests) in get_or-replicate patterns (number - 1) true false (omega (arith, few, some))
all_marked patterns number false is some = let many : patterns < number = grind (arith, nat_tests) in get_or_past (replicate patterns true) (number - 1) false (omega (arith, many, length-replicate patterns true))

stands_first : (patterns : ℕ) → Stands (replicate patterns true) patterns []
stands_first patterns number =
    both_same (nat_le 1 number) _ _ (λ is. unwrap_or-slice_get (replicate patterns true) (number - 1) false ∙ all_marked patterns number (nat_le number patterns) refl (some_number number is))

-- ---- one reply more

same_under : (b x y : Bool) → b ≡ true → (b && x) ≡ (b && y) → x ≡ y
same_under true x y is same = same
same_under false x y is same = absurd cc

and_false : (b : Bool) → (b && false) ≡ false
and_false true = refl
and_false false = refl

set_same : (marks : List Bool) (place : ℕ) → get_or (slice_set marks place false) place false ≡ false
set_same [] place = refl
set_same (mark ∷ marks) zero = refl
set_same (mark ∷ marks) (suc place) = set_same marks place

at_same : (marks : List Bool) (other number : ℕ) (b : Bool) → nat_le 1 other ≡ b → number ≡ other → 1 ≤ number → get_or (if b then slice_set marks (other - 1) false else marks) (number - 1) false ≡ false
at_same marks other number true is same some = ap (λ (n : ℕ). get_or (slice_set marks (other - 1) false) (n - 1) false) same ∙ set_same marks (other - 1)
at_same marks other number false is same some = absurd (grind (arith, nat_tests))

at_other : (marks : List Bool) (other number : ℕ) (b : Bool) → nat_le 1 other ≡ b → number ≢ other → 1 ≤ number
    → get_or (if b then slice_set marks (other - 1) false else marks) (number - 1) false ≡ get_or marks (number - 1) false
at_other marks other number true is apart some =
    let first = some_number other is in get_or-set_other marks (other - 1) (number - 1) false false (λ same. apart (omega (arith, same, some, first)))
at_other marks other number false is apart some = refl

stands_after : (marks : List Bool) (patterns : ℕ) (earlier : List ℕ) (other : ℕ) → Stands marks patterns earlier → Stands (closed marks other) patterns (other ∷ earlier)
stands_after marks patterns earlier other stands number =
    both_same (nat_le 1 number) _ _ (λ is. unwrap_or-slice_get (closed marks other) (number - 1) false
    ∙ by (number == other) refl (some_number number is) (sym (unwrap_or-slice_get marks (number - 1) false) ∙ same_under (nat_le 1 number) _ _ is (stands number)))
  where
    by : (b : Bool) → (number == other) ≡ b → 1 ≤ number → get_or marks (number - 1) false ≡ (nat_le number patterns && not (list_any (λ n. number == n) earlier))
        → get_or (closed marks other) (number - 1) false ≡ (nat_le number patterns && not (b || list_any (λ n. number == n) earlier))
    by true is some before = at_same marks other number (nat_le 1 other) refl (eqb-true number other is) some ∙ sym (and_false (nat_le number patterns))
    by false is some before = at_other marks other number (nat_le 1 other) refl (eqb-false number other is) some ∙ before

-- ---- all replies

replies_from : (marks : List Bool) (patterns : ℕ) (earlier : List ℕ) (body : List StatementDecl) → Stands marks patterns earlier → open_faults marks body ≡ reply_faults patterns earlier body
replies_from marks patterns earlier [] stands = refl
replies_from marks patterns earlier (statement.Print place items ∷ body) stands = replies_from marks patterns earlier body stands
replies_from marks patterns earlier (statement.Post place target kind operands ∷ body) stands = replies_from marks patterns earlier body stands
replies_from marks patterns earlier (statement.Stop place ∷ body) stands = replies_from marks patterns earlier body stands
replies_from marks patterns earlier (statement.Reply place number_place number operand ∷ body) stands =
    let n = unsigned_abs number in
    let others = replies_from (closed marks n) patterns (n ∷ earlier) body (stands_after marks patterns earlier n stands) in
    λ i. fault_if (not (stands n i)) BadReply number_place ++ others i

pub replies_first : (patterns : ℕ) (body : List StatementDecl) → open_faults (replicate patterns true) body ≡ reply_faults patterns [] body
replies_first patterns body = replies_from (replicate patterns true) patterns [] body (stands_first patterns)
