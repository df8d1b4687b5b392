use Rattle.std.proofs.Common.{◌<◌, ℕ, length, arith}
use Rattle.value_index.specs.Columns.{Gains, HasIn}
use Rattle.value_index.proofs.ColumnLemmas.{all_more, each_itself, each_set, gains_none, gains_then}
use Rattle.value_index.proofs.column.insert_in.Goals as goal

pub loop-column-init : goal.loop-column-init
loop-column-init c = record { gain = each_itself (Gains c.args.number) (gains_none c.args.number) c.args.columns.now; has = tt }

pub loop-column-preserved : goal.loop-column-preserved
loop-column-preserved c =
    let n = c.args.number in
    let now = c.loop-column.columns in
    let i : ℕ = c.loop-column.column-index in
    let within : i < length now = omega (arith, c.loop-column-test.true, c.loop-column.auto.columns) in
    record {
      gain = each_set (Gains n) (gains_then n) c.args.columns.now now i c.column-item.result c.insert.new.self within c.loop-column.invariant.gain c.insert.ensures.gains;
      has = all_more (HasIn c.args.messages.now n) now i c.insert.new.self within c.loop-column.invariant.has c.in_ok-insert.ensures.has;
    }

pub returns-in_err-insert-clause-gain : goal.returns-in_err-insert-clause-gain
returns-in_err-insert-clause-gain c =
    let n = c.args.number in
    each_set (Gains n) (gains_then n) c.args.columns.now c.loop-column.columns c.loop-column.column-index c.column-item.result c.insert.new.self (omega (arith, c.loop-column-test.true)) c.loop-column.invariant.gain c.insert.ensures.gains
