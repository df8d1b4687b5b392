use Rattle.std.proofs.Common.{◌≡◌, ℕ, Some, false, slice_get, sym, subst}
use Rattle.value_index.specs.declared.field.IndexedField.{IndexedField}
use Rattle.row_screens.specs.Offering.{offered}
use Rattle.row_screens.proofs.RangeLemmas.{range_found}
use Rattle.row_screens.proofs.range.by_range.Goals as goal

pub returns : goal.returns
returns c =
    let a = c.args in
    let o = offered a.offer.now in
    let field = c.in_ok-field.field in
    let span = c.in_ok-span.span in
    let indexed : IndexedField = record { kind = a.kind; field = field; words = false } in
    let known = subst (λ (p : ℕ). slice_get o.index.fields p ≡ Some indexed) (sym c.in_ok-span.ensures.place) c.in_ok-place.ensures in
    let found = c.numbers_between.ensures in
    range_found o a.slots.now a.pattern a.kind field a.screen.now span c.requires.kind c.requires.tested known c.in_ok-span.ensures.lie c.numbers_between.result found.ascend found.has
