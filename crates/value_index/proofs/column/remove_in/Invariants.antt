use Rattle.std.proofs.Common.{take}
use Rattle.std.specs.List.{AllByRecursion}
use Rattle.value_index.specs.Columns.{Each, Loses, LacksIn}
use Rattle.value_index.proofs.column.remove_in.Given as goal

abbrev pub invariant-loop-column : goal.invariant-loop-column
invariant-loop-column l = record {
  lose : Each (Loses l.number) l.initial.columns l.columns;
  lack : AllByRecursion (LacksIn l.messages l.number) (take l.column-index l.columns);
}
