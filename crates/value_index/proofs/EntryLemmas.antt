-- The entries of an index, over its columns.
use Rattle.std.proofs.Common.{◌≡◌, ◌⊎◌, ◌∙◌, inl, inr, ℕ, ℤ, zero, suc, ◌+◌, ◌<◌, ◌≤◌, List, [], ◌∷◌, ◌++◌, map, Bool, true, false, Some, length, get_or, refl, sym, ap, subst, arith}
use Rattle.std.specs.Prelude.{◌≢◌, ◌==◌, slice_get}
use Rattle.std.specs.List.{AllByRecursion}
use Rattle.std.specs.Ordering.{int_eq}
use Rattle.std.proofs.lemmas.Bool.Decides.{Decides-eqb, Decides-int_eq}
use Rattle.join_base.specs.declared.message.Message.{Message}
use Rattle.guard_eval.specs.Meaning.{recorded_message}
use Rattle.pattern_core.specs.Matches.{is_of_kind}
use Rattle.pattern_core.specs.Members.{IsIn}
use Rattle.pattern_core.proofs.MembersLemmas.{IsIn-append_cases, IsIn-append_left, IsIn-append_right, IsIn-map, IsIn-map_from}
use Rattle.value_index.specs.declared.column.Column.{Column}
use Rattle.value_index.specs.declared.field.IndexedField.{IndexedField}
use Rattle.value_index.specs.declared.valued.Valued.{Valued}
use Rattle.value_index.specs.Entries.{Entry, entry}
use Rattle.value_index.specs.Index.{AddsNone, AddsOnly, Has, Index, Keeps, KeepsOthers, Lacks}
use Rattle.value_index.specs.Columns.{Each, Gains, HasIn, IsEmptied, LacksIn, Loses, entries_from, fields_of, index_of, valued}
use Rattle.value_index.specs.Values.{value_at}

-- ---- whether an entry is among others

one_entry : (a b : Entry) → a.value ≡ b.value → a.place ≡ b.place → a.number ≡ b.number → a ≡ b
one_entry a b v p n = λ i. record { value = v i; place = p i; number = n i }

same_or_not : (a b : Entry) → (a ≡ b) ⊎ (a ≡ b → ⊥)
same_or_not a b = by (int_eq a.value b.value) refl (a.place == b.place) refl (a.number == b.number) refl
  where
    by : (v : Bool) → int_eq a.value b.value ≡ v → (p : Bool) → (a.place == b.place) ≡ p → (n : Bool) → (a.number == b.number) ≡ n → (a ≡ b) ⊎ (a ≡ b → ⊥)
    by true v true p true n = inl (one_entry a b ((Decides-int_eq a.value b.value).0 v) ((Decides-eqb a.place b.place).0 p) ((Decides-eqb a.number b.number).0 n))
    by false v p pe n ne = inr (λ e. let both : true ≡ false = sym ((Decides-int_eq a.value b.value).1 (ap (λ (x : Entry). x.value) e)) ∙ v in absurd cc)
    by true v false p n ne = inr (λ e. let both : true ≡ false = sym ((Decides-eqb a.place b.place).1 (ap (λ (x : Entry). x.place) e)) ∙ p in absurd cc)
    by true v true p false n = inr (λ e. let both : true ≡ false = sym ((Decides-eqb a.number b.number).1 (ap (λ (x : Entry). x.number) e)) ∙ n in absurd cc)

pub in_or_not : (e : Entry) (es : List Entry) → IsIn e es ⊎ (IsIn e es → ⊥)
in_or_not e [] = inr (λ there. there)
in_or_not e (x ∷ es) = elim (same_or_not x e) [
  | inl same ↦ inl (inl same)
  | inr apart ↦ elim (in_or_not e es) [ inl there ↦ inl (inr there) | inr gone ↦ inr (λ there. elim there [ inl same ↦ apart same | inr later ↦ gone later ]) ]
]

-- ---- the entries of a column

abbrev at_place : ℕ → Valued → Entry
at_place place v = entry place v.value v.number

-- an entry of the first column, with its value there, or one of the others
abbrev IsOfFirst : ℕ → Column → Entry → Type 0
IsOfFirst place column e = (e.place ≡ place) × IsIn (valued e.value e.number) column.numbers.keys

of_first : (place : ℕ) (vs : List Valued) (e : Entry) → IsIn e (map (at_place place) vs) → (e.place ≡ place) × IsIn (valued e.value e.number) vs
of_first place vs e there =
    let from = IsIn-map_from (at_place place) e vs there in
    let is : from.0 ≡ valued e.value e.number = λ i. valued (from.2 i).value (from.2 i).number in
    (sym (ap (λ (x : Entry). x.place) from.2), subst (λ (v : Valued). IsIn v vs) is from.1)

in_first : (place : ℕ) (vs : List Valued) (e : Entry) → e.place ≡ place → IsIn (valued e.value e.number) vs → IsIn e (map (at_place place) vs)
in_first place vs e same there =
    let is : at_place place (valued e.value e.number) ≡ e = λ i. record { value = e.value; place = sym same i; number = e.number } in
    subst (λ (x : Entry). IsIn x (map (at_place place) vs)) is (IsIn-map (at_place place) (valued e.value e.number) vs there)

-- entries of one list of columns are among those of another where each column's are
moved : (R : Column → Column → Type 0) (P : ℕ → Type 0) → ((x y : Column) → R x y → (v : Valued) → P v.number → IsIn v x.numbers.keys → IsIn v y.numbers.keys) → (place : ℕ) (xs ys : List Column) → Each R xs ys
    → (e : Entry) → P e.number → IsIn e (entries_from place xs) → IsIn e (entries_from place ys)
moved R P step place [] [] each e p there = absurd there
moved R P step place [] (y ∷ ys) each e p there = absurd each
moved R P step place (x ∷ xs) [] each e p there = absurd each
moved R P step place (x ∷ xs) (y ∷ ys) each e p there =
    elim (IsIn-append_cases e (map (at_place place) x.numbers.keys) (entries_from (suc place) xs) there) [
      | inl first ↦
          let of = of_first place x.numbers.keys e first in
          IsIn-append_left e (map (at_place place) y.numbers.keys) (entries_from (suc place) ys) (in_first place y.numbers.keys e of.0 (step x y each.0 (valued e.value e.number) p of.1))
      | inr later ↦ IsIn-append_right e (map (at_place place) y.numbers.keys) (entries_from (suc place) ys) (moved R P step (suc place) xs ys each.1 e p later)
    ]

-- the same from the later columns to the earlier ones
moved_back : (R : Column → Column → Type 0) (P : ℕ → Type 0) → ((x y : Column) → R x y → (v : Valued) → P v.number → IsIn v y.numbers.keys → IsIn v x.numbers.keys) → (place : ℕ) (xs ys : List Column) → Each R xs ys
    → (e : Entry) → P e.number → IsIn e (entries_from place ys) → IsIn e (entries_from place xs)
moved_back R P step place xs ys each = moved (λ y x. R x y) P (λ y x r. step x y r) place ys xs (turned xs ys each)
  where
    turned : (xs ys : List Column) → Each R xs ys → Each (λ y x. R x y) ys xs
    turned [] [] each = tt
    turned [] (y ∷ ys) each = absurd each
    turned (x ∷ xs) [] each = absurd each
    turned (x ∷ xs) (y ∷ ys) each = (each.0, turned xs ys each.1)

fields_kept : (R : Column → Column → Type 0) → ((x y : Column) → R x y → y.indexed ≡ x.indexed) → (xs ys : List Column) → Each R xs ys → fields_of ys ≡ fields_of xs
fields_kept R same [] [] each = refl
fields_kept R same [] (y ∷ ys) each = absurd each
fields_kept R same (x ∷ xs) [] each = absurd each
fields_kept R same (x ∷ xs) (y ∷ ys) each = λ i. same x y each.0 i ∷ fields_kept R same xs ys each.1 i

-- ---- a number that was added

pub gained_fields : (number : ℕ) (before now : List Column) → Each (Gains number) before now → fields_of now ≡ fields_of before
gained_fields number before now each = fields_kept (Gains number) (λ x y r. r.indexed) before now each

pub gained_keeps : (number : ℕ) (before now : List Column) → Each (Gains number) before now → Keeps (entries_from 0 before) (entries_from 0 now)
gained_keeps number before now each = λ e there. moved (Gains number) (λ n. Unit {0}) (λ x y r v p. r.keeps v) 0 before now each e tt there

pub gained_only : (number : ℕ) (before now : List Column) → Each (Gains number) before now → AddsOnly number (entries_from 0 before) (entries_from 0 now)
gained_only number before now each = moved_back (Gains number) (λ n. n ≢ number) (λ x y r. r.only) 0 before now each

-- ---- one that was taken out

pub lost_fields : (number : ℕ) (before now : List Column) → Each (Loses number) before now → fields_of now ≡ fields_of before
lost_fields number before now each = fields_kept (Loses number) (λ x y r. r.indexed) before now each

pub lost_others : (number : ℕ) (before now : List Column) → Each (Loses number) before now → KeepsOthers number (entries_from 0 before) (entries_from 0 now)
lost_others number before now each = moved (Loses number) (λ n. n ≢ number) (λ x y r. r.others) 0 before now each

pub lost_none : (number : ℕ) (before now : List Column) → Each (Loses number) before now → AddsNone (entries_from 0 before) (entries_from 0 now)
lost_none number before now each = λ e there. moved_back (Loses number) (λ n. Unit {0}) (λ x y r v p. r.none v) 0 before now each e tt there

-- ---- all, and none

pub emptied_fields : (before now : List Column) → Each IsEmptied before now → fields_of now ≡ fields_of before
emptied_fields before now each = fields_kept IsEmptied (λ x y r. r.indexed) before now each

pub emptied_entries : (place : ℕ) (before now : List Column) → Each IsEmptied before now → entries_from place now ≡ []
emptied_entries place [] [] each = refl
emptied_entries place [] (y ∷ ys) each = absurd each
emptied_entries place (x ∷ xs) [] each = absurd each
emptied_entries place (x ∷ xs) (y ∷ ys) each = λ i. map (at_place place) (each.0.empty i) ++ emptied_entries (suc place) xs ys each.1 i

-- a column without numbers behind the others
pub one_more_column : (place : ℕ) (columns : List Column) (column : Column) → column.numbers.keys ≡ [] → entries_from place (columns ++ column ∷ []) ≡ entries_from place columns
one_more_column place [] column none = λ i. map (at_place place) (none i) ++ []
one_more_column place (x ∷ xs) column none = ap (λ (es : List Entry). map (at_place place) x.numbers.keys ++ es) (one_more_column (suc place) xs column none)

-- ---- a number in each column of its kind

-- an entry of a column stands among all
pub in_column : (place : ℕ) (columns : List Column) (i : ℕ) (column : Column) (value : ℤ) (number : ℕ) → slice_get columns i ≡ Some column → IsIn (valued value number) column.numbers.keys → IsIn (entry (place + i) value number) (entries_from place columns)
in_column place [] i column value number get there = absurd cc
in_column place (x ∷ xs) zero column value number get there =
    let same : x ≡ column = cc in
    let at : place + 0 ≡ place = omega arith in
    IsIn-append_left _ (map (at_place place) x.numbers.keys) (entries_from (suc place) xs) (in_first place x.numbers.keys (entry (place + 0) value number) at (subst (λ (c : Column). IsIn (valued value number) c.numbers.keys) (sym same) there))
in_column place (x ∷ xs) (suc i) column value number get there =
    let at : suc place + i ≡ place + suc i = omega arith in
    IsIn-append_right _ (map (at_place place) x.numbers.keys) (entries_from (suc place) xs) (subst (λ (p : ℕ). IsIn (entry p value number) (entries_from (suc place) xs)) at (in_column (suc place) xs i column value number get there))

-- and one that stands among all is of the column at its place
pub from_column : (place : ℕ) (columns : List Column) (i : ℕ) (column : Column) (value : ℤ) (number : ℕ) → slice_get columns i ≡ Some column → IsIn (entry (place + i) value number) (entries_from place columns) → IsIn (valued value number) column.numbers.keys
from_column place [] i column value number get there = absurd cc
from_column place (x ∷ xs) zero column value number get there =
    let same : x ≡ column = cc in
    elim (IsIn-append_cases (entry (place + 0) value number) (map (at_place place) x.numbers.keys) (entries_from (suc place) xs) there) [
      | inl first ↦ subst (λ (c : Column). IsIn (valued value number) c.numbers.keys) same (of_first place x.numbers.keys (entry (place + 0) value number) first).1
      | inr later ↦ absurd (later_place (suc place) xs (entry (place + 0) value number) (omega arith) later)
    ]
  where
    later_place : (place : ℕ) (columns : List Column) (e : Entry) → e.place < place → IsIn e (entries_from place columns) → ⊥
    later_place place [] e l there = there
    later_place place (x ∷ xs) e l there =
        elim (IsIn-append_cases e (map (at_place place) x.numbers.keys) (entries_from (suc place) xs) there) [
          | inl first ↦ let at = (of_first place x.numbers.keys e first).0 in absurd (omega arith)
          | inr later ↦ later_place (suc place) xs e (omega arith) later
        ]
from_column place (x ∷ xs) (suc i) column value number get there =
    let at : place + suc i ≡ suc place + i = omega arith in
    elim (IsIn-append_cases (entry (place + suc i) value number) (map (at_place place) x.numbers.keys) (entries_from (suc place) xs) there) [
      | inl first ↦ let same : place + suc i ≡ place = (of_first place x.numbers.keys (entry (place + suc i) value number) first).0 in absurd (omega arith)
      | inr later ↦ from_column (suc place) xs i column value number get (subst (λ (p : ℕ). IsIn (entry p value number) (entries_from (suc place) xs)) at later)
    ]

pub in_its_column : (columns : List Column) (place : ℕ) (column : Column) (value : ℤ) (number : ℕ) → slice_get columns place ≡ Some column → IsIn (entry place value number) (entries_from 0 columns) → IsIn (valued value number) column.numbers.keys
in_its_column columns place column value number get there =
    let first : place ≡ 0 + place = omega arith in
    from_column 0 columns place column value number get (subst (λ (p : ℕ). IsIn (entry p value number) (entries_from 0 columns)) first there)

-- there is none at a place behind the columns
no_column : (place : ℕ) (columns : List Column) (i : ℕ) (value : ℤ) (number : ℕ) → length columns ≤ i → IsIn (entry (place + i) value number) (entries_from place columns) → ⊥
no_column place [] i value number past there = there
no_column place (x ∷ xs) zero value number past there = absurd (omega arith)
no_column place (x ∷ xs) (suc i) value number past there =
    let at : place + suc i ≡ suc place + i = omega arith in
    elim (IsIn-append_cases (entry (place + suc i) value number) (map (at_place place) x.numbers.keys) (entries_from (suc place) xs) there) [
      | inl first ↦ let same : place + suc i ≡ place = (of_first place x.numbers.keys (entry (place + suc i) value number) first).0 in absurd (omega arith)
      | inr later ↦ no_column (suc place) xs i value number (omega arith) (subst (λ (p : ℕ). IsIn (entry p value number) (entries_from (suc place) xs)) at later)
    ]

pub in_no_column : (columns : List Column) (place : ℕ) (value : ℤ) (number : ℕ) → length columns ≤ place → IsIn (entry place value number) (entries_from 0 columns) → ⊥
in_no_column columns place value number past there =
    let first : place ≡ 0 + place = omega arith in
    no_column 0 columns place value number past (subst (λ (p : ℕ). IsIn (entry p value number) (entries_from 0 columns)) first there)

pub get_at : {X : Type 0} (xs : List X) (i : ℕ) (d : X) → i < length xs → slice_get xs i ≡ Some (get_or xs i d)
get_at [] i d l = absurd (omega arith)
get_at (x ∷ xs) zero d l = refl
get_at (x ∷ xs) (suc i) d l = get_at xs i d (omega arith)

-- the column of a field
pub field_column : (columns : List Column) (place : ℕ) (indexed : IndexedField) → slice_get (fields_of columns) place ≡ Some indexed → (column : Column) × (slice_get columns place ≡ Some column) × (column.indexed ≡ indexed)
field_column [] place indexed get = absurd cc
field_column (x ∷ xs) zero indexed get = let same : x.indexed ≡ indexed = cc in (x, refl, same)
field_column (x ∷ xs) (suc place) indexed get = field_column xs place indexed get

each_at : (P : Column → Type 0) (columns : List Column) (i : ℕ) (column : Column) → slice_get columns i ≡ Some column → AllByRecursion P columns → P column
each_at P [] i column get h = absurd cc
each_at P (x ∷ xs) zero column get h = let same : x ≡ column = cc in subst P same h.0
each_at P (x ∷ xs) (suc i) column get h = each_at P xs i column get h.1

pub has_all : (columns : List Column) (messages : List Message) (number : ℕ) → AllByRecursion (HasIn messages number) columns → Has (index_of columns) messages number
has_all columns messages number h place indexed get kind =
    let at = field_column columns place indexed get in
    let has : HasIn messages number at.0 = each_at (HasIn messages number) columns place at.0 at.1 h in
    let own = subst (λ (f : IndexedField). is_of_kind (recorded_message messages number) f.kind ≡ true → IsIn (valued (value_at messages number f) number) at.0.numbers.keys) at.2 has kind in
    let first : 0 + place ≡ place = omega arith in
    subst (λ (p : ℕ). IsIn (entry p (value_at messages number indexed) number) (entries_from 0 columns)) first (in_column 0 columns place at.0 (value_at messages number indexed) number at.1 own)

pub lacks_all : (columns : List Column) (messages : List Message) (number : ℕ) → AllByRecursion (LacksIn messages number) columns → Lacks (index_of columns) messages number
lacks_all columns messages number h place indexed get kind there =
    let at = field_column columns place indexed get in
    let lacks : LacksIn messages number at.0 = each_at (LacksIn messages number) columns place at.0 at.1 h in
    let own = subst (λ (f : IndexedField). is_of_kind (recorded_message messages number) f.kind ≡ true → ¬ IsIn (valued (value_at messages number f) number) at.0.numbers.keys) at.2 lacks kind in
    own (in_its_column columns place at.0 (value_at messages number indexed) number at.1 there)

-- ---- what each call comes to

-- the number was added
pub record IsAdded (number : ℕ) (before now : Index) : Type 0 where
  pub fields : now.fields ≡ before.fields
  pub keeps : Keeps before.entries now.entries
  pub only : AddsOnly number before.entries now.entries

pub added : (number : ℕ) (before now : List Column) → Each (Gains number) before now → IsAdded number (index_of before) (index_of now)
added number before now each = record { fields = gained_fields number before now each; keeps = gained_keeps number before now each; only = gained_only number before now each }

-- the number was taken out
pub record IsRemoved (number : ℕ) (before now : Index) : Type 0 where
  pub fields : now.fields ≡ before.fields
  pub others : KeepsOthers number before.entries now.entries
  pub adds_none : AddsNone before.entries now.entries

pub removed : (number : ℕ) (before now : List Column) → Each (Loses number) before now → IsRemoved number (index_of before) (index_of now)
removed number before now each = record { fields = lost_fields number before now each; others = lost_others number before now each; adds_none = lost_none number before now each }
