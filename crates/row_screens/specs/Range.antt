-- The values that bounds leave an integer field.
use Rattle.std.specs.Prelude.{◌≡◌, ℕ, List, Bool, true, false, IfSome}
use Rattle.std.specs.List.{list_all}
use Rattle.join_base.specs.declared.message.Message.{Message}
use Rattle.join_base.specs.declared.message.Relation.{Relation}
use Rattle.join_base.specs.declared.message.Relation.TheVariants.{Equal, NotEqual, Less, LessEqual, Greater, GreaterEqual}
use Rattle.guard_bound.specs.declared.bound.Bound.{Bound}
use Rattle.guard_bound.specs.Bound.{int_at, meets}
use Rattle.pattern_core.specs.Members.{IsIn}
use Rattle.value_index.specs.declared.value_range.Span.{Span}
use Rattle.value_index.specs.ValueRange.{lies_in}
use Rattle.row_screens.specs.declared.range.Ends.{Ends}

-- what stands so to a value is at least that
abbrev pub is_least : Relation → Bool
is_least Equal = true
is_least NotEqual = false
is_least Less = false
is_least LessEqual = false
is_least Greater = true
is_least GreaterEqual = true

-- it is at most that
abbrev pub is_greatest : Relation → Bool
is_greatest Equal = true
is_greatest NotEqual = false
is_greatest Less = true
is_greatest LessEqual = true
is_greatest Greater = false
is_greatest GreaterEqual = false

-- one of the bounds, which gives the field a least value
pub record IsLeast (bounds : List Bound) (field : ℕ) (bound : Bound) : Type 0 where
  pub is_in : IsIn bound bounds
  pub at : bound.field ≡ field
  pub least : is_least bound.relation ≡ true

-- one that gives it a greatest value
pub record IsGreatest (bounds : List Bound) (field : ℕ) (bound : Bound) : Type 0 where
  pub is_in : IsIn bound bounds
  pub at : bound.field ≡ field
  pub greatest : is_greatest bound.relation ≡ true

-- those that are known are of the bounds
pub record AreEnds (bounds : List Bound) (field : ℕ) (ends : Ends) : Type 0 where
  pub least : IfSome ends.least (IsLeast bounds field)
  pub greatest : IfSome ends.greatest (IsGreatest bounds field)

-- the values of numbers that meet the bounds lie in the span
abbrev pub Lie : List Bound → ℕ → Span → Type 0
Lie bounds field span = (messages : List Message) (number : ℕ) → list_all (λ bound. meets messages bound number) bounds ≡ true → lies_in span (int_at messages number field) ≡ true
