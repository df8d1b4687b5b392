use Rattle.std.proofs.Common.{List, sym, subst, arith}
use Rattle.pattern_core.specs.Members.{IsIn}
use Rattle.value_index.specs.declared.column.Column.{Column}
use Rattle.value_index.specs.Columns.{entries_from}
use Rattle.value_index.specs.Entries.{entry}
use Rattle.value_index.specs.Index.{Index}
use Rattle.value_index.proofs.index.ValueIndex.numbers_between.Goals as goal

pub returns-clause-has : goal.returns-clause-has
returns-clause-has c = λ value number lies m.
    let inside = subst (λ (x : Index). IsIn (entry c.args.span.place value number) x.entries) (sym c.self.view_is) m in
    c.from_start-found.ensures.has value number (omega arith) lies (subst (λ (columns : List Column). IsIn (entry c.args.span.place value number) (entries_from 0 columns)) (sym c.deref.ensures.value) inside)
