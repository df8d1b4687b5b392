-- What a conjunct says of a pattern's number beside the known number of the wanted pattern: how an integer field compares with a value.
use Rattle.std.specs.Prelude.{◌≡◌, ℕ, ℤ, pos, neg_ℤ, ◌+ℤ◌, List, Bool, Option, Some, None, if◌then◌else◌}
use Rattle.join_base.specs.declared.message.Message.{Message}
use Rattle.join_base.specs.declared.message.Relation.{Relation}
use Rattle.guard_eval.specs.declared.term.Signed.{Signed}
use Rattle.guard_eval.specs.Condition.{Condition}
use Rattle.guard_eval.specs.Meaning.{Assignment, recorded_message, field_of, int_of, int_relation, is_true, number_at, signed_value, term_value}
use Rattle.guard_bound.specs.declared.bound.Bound.{Bound}
use Rattle.guard_bound.specs.declared.bound.Own.{Own}
use Rattle.guard_bound.specs.declared.bound.Split.{Split}

-- the integer at a field of a recorded message, and 0 where there is none
abbrev pub int_at : List Message → ℕ → ℕ → ℤ
int_at messages number field = int_of (field_of (recorded_message messages number) field)

-- the pattern has the number, and the wanted one the known number
pub record IsPair (known pattern wanted number : ℕ) (whole : Assignment) : Type 0 where
  pub here : number_at whole pattern ≡ Some number
  pub there : number_at whole wanted ≡ Some known

-- the value of the pattern's leaf, and 0 where there is none
abbrev pub own_value : List Message → Option Own → ℕ → ℤ
own_value messages None number = pos 0
own_value messages (Some own) number = if own.minus then neg_ℤ (int_at messages number own.field) else int_at messages number own.field

-- the value of a split sum
abbrev pub split_value : List Message → Split → ℕ → ℤ
split_value messages split number = split.known +ℤ own_value messages split.own number

-- the longer sum has the leaf too
abbrev pub AddsLeaf : List Message → ℕ → ℕ → ℕ → Split → Signed → Split → Type 0
AddsLeaf messages known pattern wanted split signed longer =
    (number : ℕ) (whole : Assignment) → IsPair known pattern wanted number whole → split_value messages longer number ≡ split_value messages split number +ℤ signed_value messages whole signed

-- the split sum is that of the leaves
abbrev pub IsSplit : List Message → ℕ → ℕ → ℕ → List Signed → Split → Type 0
IsSplit messages known pattern wanted leaves split =
    (number : ℕ) (whole : Assignment) → IsPair known pattern wanted number whole → term_value messages whole leaves ≡ split_value messages split number

-- the field of the number's message compares so with the bound's value
abbrev pub meets : List Message → Bound → ℕ → Bool
meets messages bound number = int_relation bound.relation (int_at messages number bound.field) bound.value

-- the one sum stands so to the other exactly where the bound is met
abbrev pub BoundsSplits : Split → Relation → Split → Bound → Type 0
BoundsSplits left relation right bound =
    (messages : List Message) (number : ℕ) → int_relation relation (split_value messages left number) (split_value messages right number) ≡ meets messages bound number

-- the conjunct is true of a number of the pattern exactly where it meets the bound
abbrev pub Says : List Message → ℕ → ℕ → ℕ → Condition → Bound → Type 0
Says messages known pattern wanted conjunct bound =
    (number : ℕ) (whole : Assignment) → IsPair known pattern wanted number whole → is_true messages whole conjunct ≡ meets messages bound number
