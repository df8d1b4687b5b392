use Rattle.std.proofs.Common.{◌≡◌, ◌∙◌, ◌<◌, ◌≤◌, ℤ, Some, length, rules, w64, to_z, of_z, ap, subst, sym, arith}
use Rattle.std.specs.Prelude.{int_le, slice_get}
use Rattle.std.proofs.lemmas.Int.{to_z-of_z}
use Rattle.std.proofs.lemmas.Bool.{and_parts}
use Rattle.value_index.specs.Columns.{valued}
use Rattle.value_index.specs.Order.{IsFromStart}
use Rattle.value_index.specs.ValueRange.{is_up_to}
use Rattle.value_index.proofs.EntryLemmas.{get_at, in_its_column, in_no_column}
use Rattle.value_index.proofs.RangeLemmas.{ascend, from_low, number_in}
use Rattle.value_index.proofs.value_range.ValueRange.from_start.Goals as goal

pub returns-in-None-clause-has : goal.returns-in-None-clause-has
returns-in-None-clause-has c =
    let past : length c.args.columns.now ≤ c.args.span.place = omega (arith, c.in-None.ensures) in
    λ value number l lies m. in_no_column c.args.columns.now c.args.span.place value number past m

-- what is left of the column from the span's least value on
left : (c : goal.After-left_from) → IsFromStart c.in-Some.column.now.numbers.keys (valued c.args.span.low c.args.from) c.left_from.result
left c =
    let a = c.args in
    let fits : to_z w64 (of_z w64 a.span.low) ≡ a.span.low = search (rules, to_z-of_z) in
    subst (λ (v : ℤ). IsFromStart c.in-Some.column.now.numbers.keys (valued v a.from) c.left_from.result) fits c.left_from.ensures

pub returns-in-Some-clause-ascend : goal.returns-in-Some-clause-ascend
returns-in-Some-clause-ascend c =
    let a = c.args in
    let part = left c in
    λ alone. ascend a.span.high a.span.low a.from c.left_from.result alone part.sorted part.above

pub returns-in-Some-clause-has : goal.returns-in-Some-clause-has
returns-in-Some-clause-has c =
    let a = c.args in
    let part = left c in
    let within : a.span.place < length a.columns.now = omega (arith, c.in-Some.ensures) in
    let column : slice_get a.columns.now a.span.place ≡ Some c.in-Some.column.now = get_at a.columns.now a.span.place c.in-Some.column.now within ∙ ap Some (sym c.in-Some.ensures.lookup.1) in
    λ value number l lies m.
    let parts = and_parts (int_le a.span.low value) (is_up_to a.span.high value) lies in
    number_in a.span.high c.left_from.result part.sorted value number parts.1
    (part.has (valued value number) (from_low a.span.low value a.from number parts.0 l) (in_its_column a.columns.now a.span.place c.in-Some.column.now value number column m))
