use Rattle.std.proofs.Common.{take}
use Rattle.std.specs.List.{AllByRecursion}
use Rattle.value_index.specs.Columns.{Each}
use Rattle.value_index.proofs.ColumnLemmas.{IsEmpty, IsSameField}
use Rattle.value_index.proofs.column.clear_in.Given as goal

abbrev pub invariant-loop-column : goal.invariant-loop-column
invariant-loop-column l = record {
  same : Each IsSameField l.initial.columns l.columns;
  empty : AllByRecursion IsEmpty (take l.column-index l.columns);
}
