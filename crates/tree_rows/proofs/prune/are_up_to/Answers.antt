use Rattle.std.proofs.Common.{◌≤◌, ℕ, get_or, arith}
use Rattle.std.proofs.lemmas.List.{get_or_default}
use Rattle.join_base.proofs.EachLemmas.{each_all, each_more}
use Rattle.tree_rows.proofs.prune.are_up_to.Goals as goal

pub loop-number-preserved : goal.loop-number-preserved
loop-number-preserved c =
    let xs = c.as_slice-number-items.result.now in
    let i : ℕ = c.loop-number.number-index in
    let x : ℕ = get_or xs i 0 in
    each_more (λ n. n ≤ c.args.limit) xs i x c.loop-number-test.true (get_or_default xs i 0 x c.loop-number-test.true) (omega (arith, c.if-number-limit.false)) c.loop-number.invariant

pub returns : goal.returns
returns c = λ e.
    let xs = c.as_slice-number-items.result.now in
    each_all (λ n. n ≤ c.args.limit) xs c.args.numbers.now c.loop-number.number-index c.loop-number-test.false c.as_slice-number-items.ensures.same c.loop-number.invariant
