-- A loop over columns, each of which it changes.
use Rattle.std.proofs.Common.{◌≡◌, ◌∙◌, ℕ, zero, suc, ◌+◌, ◌<◌, ◌≤◌, List, [], ◌∷◌, length, take, get_or, slice_set, refl, sym, subst, arith}
use Rattle.std.specs.List.{AllByRecursion}
use Rattle.std.proofs.lemmas.List.{take_more_set, take_all}
use Rattle.join_base.proofs.EachLemmas.{each_last}
use Rattle.value_index.specs.declared.column.Column.{Column}
use Rattle.value_index.specs.Columns.{Each, Gains, IsEmptied, Loses}

pub each_itself : (R : Column → Column → Type 0) → ((x : Column) → R x x) → (xs : List Column) → Each R xs xs
each_itself R self [] = tt
each_itself R self (x ∷ xs) = (self x, each_itself R self xs)

-- one step more at a place
pub each_set : (R : Column → Column → Type 0) → ((x y z : Column) → R x y → R y z → R x z) → (before now : List Column) (i : ℕ) (d x : Column) → i < length now → Each R before now → R (get_or now i d) x → Each R before (slice_set now i x)
each_set R then [] [] i d x within each step = absurd (omega arith)
each_set R then [] (n ∷ ns) i d x within each step = absurd each
each_set R then (b ∷ bs) [] i d x within each step = absurd each
each_set R then (b ∷ bs) (n ∷ ns) zero d x within each step = (then b n x each.0 step, each.1)
each_set R then (b ∷ bs) (n ∷ ns) (suc i) d x within each step = (each.0, each_set R then bs ns i d x (omega arith) each.1 step)

-- the columns so far have it
pub all_more : (P : Column → Type 0) (now : List Column) (i : ℕ) (x : Column) → i < length now → AllByRecursion P (take i now) → P x → AllByRecursion P (take (i + 1) (slice_set now i x))
all_more P now i x within h p = subst (AllByRecursion P) (sym (take_more_set now i x within)) (each_last P (take i now) x h p)

pub all_done : (P : Column → Type 0) (now : List Column) (i : ℕ) → length now ≤ i → AllByRecursion P (take i now) → AllByRecursion P now
all_done P now i past h = subst (AllByRecursion P) (take_all i now past) h

pub gains_none : (number : ℕ) (x : Column) → Gains number x x
gains_none number x = record { indexed = refl; keeps = λ v there. there; only = λ v apart there. there }

pub gains_then : (number : ℕ) (x y z : Column) → Gains number x y → Gains number y z → Gains number x z
gains_then number x y z a b = record { indexed = b.indexed ∙ a.indexed; keeps = λ v there. b.keeps v (a.keeps v there); only = λ v apart there. a.only v apart (b.only v apart there) }

pub loses_none : (number : ℕ) (x : Column) → Loses number x x
loses_none number x = record { indexed = refl; others = λ v apart there. there; none = λ v there. there }

pub loses_then : (number : ℕ) (x y z : Column) → Loses number x y → Loses number y z → Loses number x z
loses_then number x y z a b = record { indexed = b.indexed ∙ a.indexed; others = λ v apart there. b.others v apart (a.others v apart there); none = λ v there. a.none v (b.none v there) }

-- ---- columns that are emptied

abbrev pub IsSameField : Column → Column → Type 0
IsSameField before now = now.indexed ≡ before.indexed

abbrev pub IsEmpty : Column → Type 0
IsEmpty column = column.numbers.keys ≡ []

pub emptied_each : (before now : List Column) → Each IsSameField before now → AllByRecursion IsEmpty now → Each IsEmptied before now
emptied_each [] [] each empty = tt
emptied_each [] (n ∷ ns) each empty = absurd each
emptied_each (b ∷ bs) [] each empty = absurd each
emptied_each (b ∷ bs) (n ∷ ns) each empty = (record { indexed = each.0; empty = empty.0 }, emptied_each bs ns each.1 empty.1)
