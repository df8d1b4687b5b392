use Rattle.std.proofs.Common.{◌<◌, ◌∙◌, ℕ, length, refl, arith}
use Rattle.value_index.proofs.ColumnLemmas.{IsEmpty, IsSameField, all_done, all_more, each_itself, each_set, emptied_each}
use Rattle.value_index.proofs.column.clear_in.Goals as goal

pub loop-column-init : goal.loop-column-init
loop-column-init c = record { same = each_itself IsSameField (λ x. refl) c.args.columns.now; empty = tt }

pub loop-column-preserved : goal.loop-column-preserved
loop-column-preserved c =
    let now = c.loop-column.columns in
    let i : ℕ = c.loop-column.column-index in
    let within : i < length now = omega (arith, c.loop-column-test.true, c.loop-column.auto.columns) in
    record {
      same = each_set IsSameField (λ x y z a b. b ∙ a) c.args.columns.now now i c.column-item.result c.clear.new.self within c.loop-column.invariant.same c.clear.ensures.indexed;
      empty = all_more IsEmpty now i c.clear.new.self within c.loop-column.invariant.empty c.clear.ensures.empty;
    }

pub returns : goal.returns
returns c = emptied_each c.args.columns.now c.loop-column.columns c.loop-column.invariant.same (all_done IsEmpty c.loop-column.columns c.loop-column.column-index (omega (arith, c.loop-column-test.false, c.loop-column.auto.columns)) c.loop-column.invariant.empty)
