use Rattle.std.proofs.Common.{take}
use Rattle.std.specs.List.{AllByRecursion}
use Rattle.value_index.specs.Columns.{Each, Gains, HasIn}
use Rattle.value_index.proofs.column.insert_in.Given as goal

abbrev pub invariant-loop-column : goal.invariant-loop-column
invariant-loop-column l = record {
  gain : Each (Gains l.number) l.initial.columns l.columns;
  has : AllByRecursion (HasIn l.messages l.number) (take l.column-index l.columns);
}
