-- The rows among what is marked: which they are, and their order.
use Rattle.std.proofs.Common.{◌≡◌, inl, inr, ℕ, zero, suc, ◌+◌, ◌<◌, ◌≤◌, Bool, true, false, List, [], ◌∷◌, length, Option, None, Some, slice_get, refl, sym, ap, subst, arith}
use Rattle.std.specs.Prelude.{◌&&◌, if◌then◌else◌, slice_index}
use Rattle.std.specs.List.{cons_option}
use Rattle.std.specs.List.Sorted.{IsStrictlyIncreasing}
use Rattle.std.proofs.lemmas.Bool.{and_from, and_parts}
use Rattle.std.proofs.lemmas.Option.{slice_get_within}
use Rattle.pattern_core.specs.Members.{IsIn}
use Rattle.feed_causes.specs.Causes.{AreRows, Arrived, is_row, is_row_by}
use Rattle.feed_causes.specs.Search.{AreMarks, rows_from}

-- ---- which they are

-- a place is one of those from the first on that have a mark, and a row arrived there
pub record IsMarkedRow (all : List Arrived) (first : ℕ) (marks : List Bool) (place : ℕ) : Type 0 where
  pub at : ℕ
  pub is : place ≡ first + at
  pub mark : slice_get marks at ≡ Some true
  pub fed : is_row all place ≡ true

next_marked : (all : List Arrived) (first : ℕ) (mark : Bool) (marks : List Bool) (place : ℕ) → IsMarkedRow all (first + 1) marks place → IsMarkedRow all first (mark ∷ marks) place
next_marked all first mark marks place row = let is : place ≡ first + 1 + row.at = row.is in record { at = suc row.at; is = omega (arith, is); mark = row.mark; fed = row.fed }

rows_are : (all : List Arrived) (first : ℕ) (marks : List Bool) (place : ℕ) → IsIn place (rows_from all first marks) → IsMarkedRow all first marks place
rows_are all first [] place none = absurd none
rows_are all first (mark ∷ marks) place at = by (mark && is_row all first) refl (rows_are all (first + 1) marks place) at
  where
    by : (b : Bool) → (mark && is_row all first) ≡ b → (IsIn place (rows_from all (first + 1) marks) → IsMarkedRow all (first + 1) marks place)
        → IsIn place (cons_option (if b then Some first else None) (rows_from all (first + 1) marks)) → IsMarkedRow all first (mark ∷ marks) place
    by true is later (inl same) =
        let parts = and_parts mark (is_row all first) is in
        record { at = 0; is = omega (arith, same); mark = ap (λ (m : Bool). Some m) parts.0; fed = subst (λ (p : ℕ). is_row all p ≡ true) same parts.1 }
    by true is later (inr at) = next_marked all first mark marks place (later at)
    by false is later at = next_marked all first mark marks place (later at)

rows_have : (all : List Arrived) (first : ℕ) (marks : List Bool) (at place : ℕ) → place ≡ first + at → slice_get marks at ≡ Some true → is_row all place ≡ true → IsIn place (rows_from all first marks)
rows_have all first [] at place is mark fed = absurd cc
rows_have all first (m ∷ marks) zero place is mark fed = by (m && is_row all first) (and_from m (is_row all first) marked row)
  where
    same : first ≡ place
    same = omega (arith, is)

    marked : m ≡ true
    marked = cc

    row : is_row all first ≡ true
    row = subst (λ (p : ℕ). is_row all p ≡ true) (sym same) fed

    by : (b : Bool) → b ≡ true → IsIn place (cons_option (if b then Some first else None) (rows_from all (first + 1) marks))
    by true holds = inl same
    by false holds = absurd cc
rows_have all first (m ∷ marks) (suc at) place is mark fed = by (m && is_row all first) (rows_have all (first + 1) marks at place (omega (arith, is)) mark fed)
  where
    by : (b : Bool) → IsIn place (rows_from all (first + 1) marks) → IsIn place (cons_option (if b then Some first else None) (rows_from all (first + 1) marks))
    by true later = inr later
    by false later = later

-- ---- their order

-- each is greater than the one before, and the first is not below this number
abbrev pub Ascend : ℕ → List ℕ → Type 0
Ascend least [] = Unit {0}
Ascend least (n ∷ ns) = (least ≤ n) × Ascend (n + 1) ns

from_less : (least less : ℕ) (ns : List ℕ) → less ≤ least → Ascend least ns → Ascend less ns
from_less least less [] le up = tt
from_less least less (n ∷ ns) le up = let first = up.0 in (omega (arith, le, first), up.1)

rows_ascend : (all : List Arrived) (first : ℕ) (marks : List Bool) → Ascend first (rows_from all first marks)
rows_ascend all first [] = tt
rows_ascend all first (mark ∷ marks) = by (mark && is_row all first) (rows_ascend all (first + 1) marks)
  where
    by : (b : Bool) → Ascend (first + 1) (rows_from all (first + 1) marks) → Ascend first (cons_option (if b then Some first else None) (rows_from all (first + 1) marks))
    by true later = (omega arith, later)
    by false later = from_less (first + 1) first (rows_from all (first + 1) marks) (omega arith) later

increasing : (least : ℕ) (ns : List ℕ) → Ascend least ns → IsStrictlyIncreasing ns
increasing least [] up k within = absurd (omega (arith, within))
increasing least (a ∷ []) up k within = absurd (omega (arith, within))
increasing least (a ∷ b ∷ ns) up zero within = let next = up.1.0 in omega (arith, next)
increasing least (a ∷ b ∷ ns) up (suc k) within =
    let behind : suc k + 1 ≡ suc (k + 1) = omega arith in
    let here = increasing (a + 1) (b ∷ ns) up.1 k (omega (arith, within)) in
    subst (λ (n : ℕ). slice_index (b ∷ ns) k < slice_index (a ∷ b ∷ ns) n) (sym behind) here

-- ---- the rows that led to a firing

row_within : (all : List Arrived) (place : ℕ) → is_row all place ≡ true → place < length all
row_within all place fed = by (slice_get all place) refl fed
  where
    by : (arrival : Option Arrived) → slice_get all place ≡ arrival → is_row_by arrival ≡ true → place < length all
    by None at none = absurd cc
    by (Some arrival) at some = slice_get_within all place arrival at

marked_led : (all : List Arrived) (place : ℕ) (marks : List Bool) → AreMarks all place marks → AreRows all place (rows_from all 0 marks)
marked_led all place marks are = record {
  led = λ cause at. let row = rows_are all 0 marks cause at in are.led cause (subst (λ (n : ℕ). slice_get marks n ≡ Some true) (here cause row.at row.is) row.mark);
  fed = λ cause at. let row = rows_are all 0 marks cause at in row.fed;
  each = λ cause fed led. rows_have all 0 marks cause cause (omega arith) (are.each cause (row_within all cause fed) led) fed;
  ascend = increasing 0 (rows_from all 0 marks) (rows_ascend all 0 marks);
}
  where
    here : (cause at : ℕ) → cause ≡ 0 + at → at ≡ cause
    here cause at same = omega (arith, same)

pub rows_led : (all : List Arrived) (place : ℕ) (marks : List Bool) (rows : List ℕ) → AreMarks all place marks → rows ≡ rows_from all 0 marks → AreRows all place rows
rows_led all place marks rows are is = subst (λ (ns : List ℕ). AreRows all place ns) (sym is) (marked_led all place marks are)
