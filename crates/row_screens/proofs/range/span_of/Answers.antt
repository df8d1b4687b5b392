use Rattle.std.proofs.Common.{◌≡◌, ◌∙◌, rules, w64, to_z, of_z}
use Rattle.std.proofs.lemmas.Int.{to_z-of_z}
use Rattle.row_screens.proofs.RangeLemmas.{span_lies}
use Rattle.row_screens.proofs.range.span_of.Goals as goal

pub returns-clause-lie : goal.returns-clause-lie
returns-clause-lie c =
    let low = c.in_ok-low.low in
    let fits : to_z w64 (of_z w64 low) ≡ low = search (rules, to_z-of_z) in
    span_lies c.args.bounds.now c.args.field c.ends_of-ends.result c.in_ok-least.least (record { place = c.args.place; low = to_z w64 (of_z w64 low); high = c.high_of-high.result }) c.ends_of-ends.ensures c.in_ok-least.was (fits ∙ c.in_ok-low.ensures) c.high_of-high.ensures
