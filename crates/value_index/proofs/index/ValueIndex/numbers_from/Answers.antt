use Rattle.std.proofs.Common.{◌≡◌, ◌∙◌, ◌≤◌, ℕ, ℤ, List, Some, true, rules, w64, to_z, of_z, refl, ap, subst, sym}
use Rattle.std.proofs.lemmas.Int.{to_z-of_z}
use Rattle.pattern_core.specs.Members.{IsIn}
use Rattle.value_index.specs.declared.column.Column.{Column}
use Rattle.value_index.specs.declared.value_range.Span.{Span}
use Rattle.value_index.specs.Columns.{entries_from}
use Rattle.value_index.specs.Entries.{entry}
use Rattle.value_index.specs.Index.{Index}
use Rattle.value_index.specs.ValueRange.{lies_in, one_value}
use Rattle.value_index.proofs.RangeLemmas.{lies_alone}
use Rattle.value_index.proofs.index.ValueIndex.numbers_from.Goals as goal

pub returns-clause-ascend : goal.returns-clause-ascend
returns-clause-ascend c =
    let a = c.args in
    let fits : to_z w64 (of_z w64 a.value) ≡ a.value = search (rules, to_z-of_z) in
    let is : c.of.result ≡ one_value a.place a.value = c.of.ensures ∙ ap (λ (v : ℤ). one_value a.place v) fits in
    c.from_start.ensures.ascend (subst (λ (s : Span). s.high ≡ Some s.low) (sym is) refl)

pub returns-clause-has : goal.returns-clause-has
returns-clause-has c =
    let a = c.args in
    let fits : to_z w64 (of_z w64 a.value) ≡ a.value = search (rules, to_z-of_z) in
    let is : c.of.result ≡ one_value a.place a.value = c.of.ensures ∙ ap (λ (v : ℤ). one_value a.place v) fits in
    let has = subst (λ (s : Span). (v : ℤ) (number : ℕ) → a.from ≤ number → lies_in s v ≡ true → IsIn (entry s.place v number) (entries_from 0 c.deref.result.now) → IsIn number c.from_start.result) is c.from_start.ensures.has in
    λ number l m.
    let inside = subst (λ (x : Index). IsIn (entry a.place a.value number) x.entries) (sym c.self.view_is) m in
    has a.value number l (lies_alone a.place a.value) (subst (λ (columns : List Column). IsIn (entry a.place a.value number) (entries_from 0 columns)) (sym c.deref.ensures.value) inside)
