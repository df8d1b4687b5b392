-- What an index holds: the numbers of messages by the values of their fields.
use Rattle.std.specs.Prelude.{◌≡◌, ◌≢◌, ℕ, List, [], true, Some, slice_get}
use Rattle.join_base.specs.declared.message.Message.{Message}
use Rattle.guard_eval.specs.Meaning.{recorded_message}
use Rattle.pattern_core.specs.Matches.{is_of_kind}
use Rattle.pattern_core.specs.Members.{IsIn}
use Rattle.value_index.specs.declared.field.IndexedField.{IndexedField}
pub use Rattle.value_index.specs.Entries.{Entry, entry}
use Rattle.value_index.specs.Values.{value_at}

-- the fields that are indexed, and the entries of numbers at them
pub record Index : Type 0 where
  pub fields : List IndexedField
  pub entries : List Entry

-- an index of no field
abbrev pub no_index : Index
no_index = record { fields = []; entries = [] }

-- the index has the number, with its value at each field of its kind
abbrev pub Has : Index → List Message → ℕ → Type 0
Has index messages number =
    (place : ℕ) (indexed : IndexedField) → slice_get index.fields place ≡ Some indexed → is_of_kind (recorded_message messages number) indexed.kind ≡ true
    → IsIn (entry place (value_at messages number indexed) number) index.entries

-- all entries are still there
abbrev pub Keeps : List Entry → List Entry → Type 0
Keeps before now = (e : Entry) → IsIn e before → IsIn e now

-- all entries of other numbers are still there
abbrev pub KeepsOthers : ℕ → List Entry → List Entry → Type 0
KeepsOthers number before now = (e : Entry) → e.number ≢ number → IsIn e before → IsIn e now

-- the index has no entry of the number with its value at a field of its kind
abbrev pub Lacks : Index → List Message → ℕ → Type 0
Lacks index messages number =
    (place : ℕ) (indexed : IndexedField) → slice_get index.fields place ≡ Some indexed → is_of_kind (recorded_message messages number) indexed.kind ≡ true
    → ¬ IsIn (entry place (value_at messages number indexed) number) index.entries

-- no entry came in
abbrev pub AddsNone : List Entry → List Entry → Type 0
AddsNone before now = (e : Entry) → IsIn e now → IsIn e before

-- no entry of another number came in
abbrev pub AddsOnly : ℕ → List Entry → List Entry → Type 0
AddsOnly number before now = (e : Entry) → e.number ≢ number → IsIn e now → IsIn e before
