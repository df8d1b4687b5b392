-- What an index is made of: for each field the numbers of its kind's messages, with their values.
use Rattle.std.specs.Prelude.{◌≡◌, ◌≢◌, ℕ, suc, ℤ, ◌++◌, List, [], ◌∷◌, map, true}
use Rattle.join_base.specs.declared.message.Message.{Message}
use Rattle.guard_eval.specs.Meaning.{recorded_message}
use Rattle.pattern_core.specs.Matches.{is_of_kind}
use Rattle.pattern_core.specs.Members.{IsIn}
use Rattle.value_index.specs.declared.column.Column.{Column}
use Rattle.value_index.specs.declared.field.IndexedField.{IndexedField}
use Rattle.value_index.specs.declared.valued.Valued.{Valued}
use Rattle.value_index.specs.Entries.{Entry, entry}
use Rattle.value_index.specs.Index.{Index}
use Rattle.value_index.specs.Values.{value_at}

-- a number with its value
abbrev pub valued : ℤ → ℕ → Valued
valued value number = record { value = value; number = number }

-- the entries of the columns, of which the first is that of this place
abbrev pub entries_from : ℕ → List Column → List Entry
entries_from place [] = []
entries_from place (column ∷ columns) = map (λ (v : Valued). entry place v.value v.number) column.numbers.keys ++ entries_from (suc place) columns

abbrev pub fields_of : List Column → List IndexedField
fields_of columns = map (λ (column : Column). column.indexed) columns

abbrev pub index_of : List Column → Index
index_of columns = record { fields = fields_of columns; entries = entries_from 0 columns }

-- two lists of columns have as many, and each two at one place are so
abbrev pub Each : (Column → Column → Type 0) → List Column → List Column → Type 0
Each R [] [] = Unit {0}
Each R [] (now ∷ nows) = ⊥
Each R (before ∷ befores) [] = ⊥
Each R (before ∷ befores) (now ∷ nows) = R before now × Each R befores nows

-- nothing but the number came into a column
pub record Gains (number : ℕ) (before now : Column) : Type 0 where
  pub indexed : now.indexed ≡ before.indexed
  pub keeps : (v : Valued) → IsIn v before.numbers.keys → IsIn v now.numbers.keys
  pub only : (v : Valued) → v.number ≢ number → IsIn v now.numbers.keys → IsIn v before.numbers.keys

-- nothing but the number went out of a column
pub record Loses (number : ℕ) (before now : Column) : Type 0 where
  pub indexed : now.indexed ≡ before.indexed
  pub others : (v : Valued) → v.number ≢ number → IsIn v before.numbers.keys → IsIn v now.numbers.keys
  pub none : (v : Valued) → IsIn v now.numbers.keys → IsIn v before.numbers.keys

-- all numbers went out of a column
pub record IsEmptied (before now : Column) : Type 0 where
  pub indexed : now.indexed ≡ before.indexed
  pub empty : now.numbers.keys ≡ []

-- the column has the number, if that is of its kind
abbrev pub HasIn : List Message → ℕ → Column → Type 0
HasIn messages number column = is_of_kind (recorded_message messages number) column.indexed.kind ≡ true → IsIn (valued (value_at messages number column.indexed) number) column.numbers.keys

-- the column lacks the number, if that is of its kind
abbrev pub LacksIn : List Message → ℕ → Column → Type 0
LacksIn messages number column = is_of_kind (recorded_message messages number) column.indexed.kind ≡ true → ¬ IsIn (valued (value_at messages number column.indexed) number) column.numbers.keys
