-- The numbers with values that stand in their order, as long as they are of a span.
use Rattle.std.specs.Prelude.{ℕ, ℤ, ◌<◌, List, [], ◌∷◌, Bool, true, ◌&&◌, Option, Some, None, int_le, if◌then◌else◌}
use Rattle.std.specs.List.{AllByRecursion}
use Rattle.value_index.specs.declared.valued.Valued.{Valued}
use Rattle.value_index.specs.declared.value_range.Span.{Span}

-- the span of one value alone
abbrev pub one_value : ℕ → ℤ → Span
one_value place value = record { place = place; low = value; high = Some value }

-- the value is not above the greatest one, if there is one
abbrev pub is_up_to : Option ℤ → ℤ → Bool
is_up_to None value = true
is_up_to (Some high) value = int_le value high

-- the span has the value
abbrev pub lies_in : Span → ℤ → Bool
lies_in span value = int_le span.low value && is_up_to span.high value

-- the numbers up to the first value that is too great
abbrev pub numbers_of : Option ℤ → List Valued → List ℕ
numbers_of high [] = []
numbers_of high (v ∷ left) = if is_up_to high v.value then v.number ∷ numbers_of high left else []

-- those of what is left of a column, if there is one
abbrev pub numbers_in : Option ℤ → Option (List Valued) → List ℕ
numbers_in high None = []
numbers_in high (Some left) = numbers_of high left

-- each number is greater than those before it
abbrev pub Ascend : List ℕ → Type 0
Ascend [] = Unit {0}
Ascend (n ∷ numbers) = AllByRecursion (λ m. n < m) numbers × Ascend numbers
