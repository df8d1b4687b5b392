use Rattle.std.proofs.Common.{◌≡◌, ◌∙◌, List, length, drop, ap, subst, arith}
use Rattle.std.proofs.lemmas.List.{take_at}
use Rattle.value_index.specs.declared.column.Column.{Column}
use Rattle.value_index.specs.Columns.{Each, IsEmptied, entries_from, fields_of}
use Rattle.value_index.specs.Index.{Index}
use Rattle.value_index.proofs.EntryLemmas.{emptied_entries, emptied_fields}
use Rattle.value_index.proofs.index.ValueIndex.clear.Goals as goal

pub returns : goal.returns
returns c =
    let s = c.self.inside in
    let after = c.clear_in.new.columns in
    let long : length after ≡ s.columns.len = omega (arith, c.clear_in.auto.columns, c.deref_mut.ensures.len) in
    let is = take_at after (drop (length after) s.columns.items) s.columns.len long in
    let each = subst (λ (columns : List Column). Each IsEmptied columns after) c.deref_mut.ensures.value c.clear_in.ensures in
    record { fields = ap fields_of is ∙ emptied_fields s.columns.items after each ∙ ap (λ (x : Index). x.fields) c.self.view_is; entries = ap (entries_from 0) is ∙ emptied_entries 0 s.columns.items after each }
