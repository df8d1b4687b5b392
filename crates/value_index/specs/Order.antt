-- The order of numbers with their values.
use Rattle.std.specs.Prelude.{◌≡◌, List, false}
use Rattle.std.specs.List.Sorted.{IsStrictlySortedBy}
use Rattle.pattern_core.specs.Members.{IsIn}
use Rattle.std.specs.Ordering.{is_gt, nat_cmp, int_cmp, ordering_then}
use Rattle.std.specs.declared.cmp.Ordering.{Ordering}
use Rattle.value_index.specs.declared.valued.Valued.{Valued}

-- by the values, and then by the numbers
abbrev pub valued_cmp : Valued → Valued → Ordering
valued_cmp a b = ordering_then (int_cmp a.value b.value) (nat_cmp a.number b.number)

-- the one is not behind the other
abbrev pub IsUpTo : Valued → Valued → Type 0
IsUpTo a b = is_gt (valued_cmp a b) ≡ false

-- what stands from the start on
pub record IsFromStart (all : List Valued) (start : Valued) (left : List Valued) : Type 0 where
  pub sorted : IsStrictlySortedBy valued_cmp left
  pub above : (v : Valued) → IsIn v left → IsUpTo start v
  pub has : (v : Valued) → IsUpTo start v → IsIn v all → IsIn v left
