use Rattle.std.proofs.Common.{◌≡◌, ◌∙◌, ℤ, rules, w64, to_z, of_z, ap, subst}
use Rattle.std.proofs.lemmas.Int.{to_z-of_z}
use Rattle.value_index.specs.declared.valued.Valued.{Valued}
use Rattle.value_index.specs.Columns.{valued}
use Rattle.value_index.specs.Order.{IsFromStart}
use Rattle.value_index.proofs.RangeLemmas.{from_start}
use Rattle.value_index.proofs.value_range.left_from.Goals as goal

pub returns : goal.returns
returns c =
    let a = c.args in
    let fits : to_z w64 (of_z w64 a.low) ≡ a.low = search (rules, to_z-of_z) in
    let start : c.new.result ≡ valued a.low a.from = c.new.ensures ∙ ap (λ (v : ℤ). valued v a.from) fits in
    subst (λ (s : Valued). IsFromStart a.column.now.numbers.keys s c.range.result) start (from_start a.column.now.numbers c.new.result c.range.result c.range.ensures.ordered (c.range.ensures.between tt))
