-- Bounding conjuncts, and the interval that they leave of an integer place.
use Rattle.std.specs.Prelude.{◌+◌, ◌^◌, List, [], ◌∷◌, Bool, true, false, ◌&&◌, ◌==◌, ℤ, pos, neg_ℤ, ◌+ℤ◌, ◌-ℤ◌, int_lt, int_le, Option, Some, None, if◌then◌else◌}
use Rattle.std.specs.Option.{option_and_then, option_or}
use Rattle.join_base.specs.declared.message.Relation.{Relation}
use Rattle.join_base.specs.declared.message.Relation.TheVariants.{Equal, NotEqual, Less, LessEqual, Greater, GreaterEqual}
use Rattle.guard_eval.specs.Condition.{Condition, Never, Compares, Either}
use Rattle.guard_eval.specs.declared.term.Place.{Place}
use Rattle.guard_eval.specs.declared.term.Leaf.{Leaf}
use Rattle.guard_eval.specs.declared.term.Leaf.TheVariants as leaf
use Rattle.guard_eval.specs.declared.term.Signed.{Signed}
use Rattle.guard_eval.specs.declared.term.Operand.TheVariants as operand
use Rattle.guard_eval.specs.Meaning.{has_some, term_needs, term_value, turned}
use Rattle.script_lint.specs.declared.bounds.Bound.{Bound}
use Rattle.script_lint.specs.declared.bounds.Interval.{Interval}

-- the atom of a conjunct that has just one
abbrev pub only_atom : Condition → Option Condition
only_atom (Either atom Never) = Some atom
only_atom _ = None

abbrev pub field_of_leaf : Leaf → Option Place
field_of_leaf (leaf.Number n) = None
field_of_leaf (leaf.Field place) = Some place

-- the field of a sum that is a single field without a minus
abbrev pub lone_field : List Signed → Option Place
lone_field [] = None
lone_field (signed ∷ []) = if signed.minus then None else field_of_leaf signed.leaf
lone_field (signed ∷ next ∷ more) = None

-- the value of a sum of numbers alone
abbrev pub fixed_sum : List Signed → Option ℤ
fixed_sum leaves = if has_some (term_needs leaves) then None else Some (term_value [] [] leaves)

-- a field compared with a number
abbrev pub bound_by : Option Place → Relation → Option ℤ → Option Bound
bound_by (Some place) relation (Some number) = Some record { place = place; relation = relation; number = number }
bound_by (Some place) relation None = None
bound_by None relation number = None

abbrev pub is_bounding : Relation → Bool
is_bounding NotEqual = false
is_bounding _ = true

-- a field and a number, on either side of a relation other than `!=`
abbrev pub bound_between : List Signed → Relation → List Signed → Option Bound
bound_between left relation right =
    if is_bounding relation then option_or (bound_by (lone_field left) relation (fixed_sum right)) (bound_by (lone_field right) (turned relation) (fixed_sum left)) else None

abbrev pub bound_of_atom : Condition → Option Bound
bound_of_atom (Compares (operand.Sum left) relation (operand.Sum right)) = bound_between left relation right
bound_of_atom _ = None

-- the bound of a bounding conjunct: one atom, between a field and a number
abbrev pub bound_of : Condition → Option Bound
bound_of conjunct = option_and_then bound_of_atom (only_atom conjunct)

abbrev pub is_same_place : Place → Place → Bool
is_same_place a b = (a.pattern == b.pattern) && (a.field == b.field)

-- ---- intervals: the integers above one number and below another

-- all integers of 64 bits
abbrev pub whole : Interval
whole = record { above = neg_ℤ (pos (2 ^ 63 + 1)); below = pos (2 ^ 63) }

-- those of them that are below the number, or above it
abbrev pub under : ℤ → Interval → Interval
under n interval = record { above = interval.above; below = if int_lt n interval.below then n else interval.below }

abbrev pub over : ℤ → Interval → Interval
over n interval = record { above = if int_lt interval.above n then n else interval.above; below = interval.below }

-- those of them that have the relation to the number
abbrev pub cut : Relation → ℤ → Interval → Interval
cut Less n interval = under n interval
cut LessEqual n interval = under (n +ℤ pos 1) interval
cut Greater n interval = over n interval
cut GreaterEqual n interval = over (n -ℤ pos 1) interval
cut Equal n interval = over (n -ℤ pos 1) (under (n +ℤ pos 1) interval)
cut NotEqual n interval = interval

-- cut by a bound, if it is one on this place
abbrev pub cut_by : Place → Interval → Option Bound → Interval
cut_by place interval None = interval
cut_by place interval (Some bound) = if is_same_place bound.place place then cut bound.relation bound.number interval else interval

-- cut by all bounding conjuncts on this place
abbrev pub cut_by_all : Place → Interval → List Condition → Interval
cut_by_all place interval [] = interval
cut_by_all place interval (conjunct ∷ conjuncts) = cut_by_all place (cut_by place interval (bound_of conjunct)) conjuncts

-- the interval of a place: the integers of 64 bits, cut by all bounding conjuncts on it
abbrev pub interval_of : List Condition → Place → Interval
interval_of conjuncts place = cut_by_all place whole conjuncts

abbrev pub is_empty : Interval → Bool
is_empty interval = int_le interval.below (interval.above +ℤ pos 1)

-- each integer of an interval that is not empty has the relation to the number
abbrev pub holds_throughout : Interval → Relation → ℤ → Bool
holds_throughout interval Less n = int_le interval.below n
holds_throughout interval LessEqual n = int_le interval.below (n +ℤ pos 1)
holds_throughout interval Greater n = int_le n interval.above
holds_throughout interval GreaterEqual n = int_le (n -ℤ pos 1) interval.above
holds_throughout interval Equal n = int_le interval.below (n +ℤ pos 1) && int_le (n -ℤ pos 1) interval.above
holds_throughout interval NotEqual n = false
