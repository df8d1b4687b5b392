use Rattle.std.proofs.Common.{◌<◌, ℕ, length, arith}
use Rattle.value_index.specs.Columns.{Loses, LacksIn}
use Rattle.value_index.proofs.ColumnLemmas.{all_more, each_itself, each_set, loses_none, loses_then}
use Rattle.value_index.proofs.column.remove_in.Goals as goal

pub loop-column-init : goal.loop-column-init
loop-column-init c = record { lose = each_itself (Loses c.args.number) (loses_none c.args.number) c.args.columns.now; lack = tt }

pub loop-column-preserved : goal.loop-column-preserved
loop-column-preserved c =
    let n = c.args.number in
    let now = c.loop-column.columns in
    let i : ℕ = c.loop-column.column-index in
    let within : i < length now = omega (arith, c.loop-column-test.true, c.loop-column.auto.columns) in
    record {
      lose = each_set (Loses n) (loses_then n) c.args.columns.now now i c.column-item.result c.remove.new.self within c.loop-column.invariant.lose c.remove.ensures.loses;
      lack = all_more (LacksIn c.args.messages.now n) now i c.remove.new.self within c.loop-column.invariant.lack c.remove.ensures.lacks;
    }
