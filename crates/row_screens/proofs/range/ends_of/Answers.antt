use Rattle.row_screens.proofs.RangeLemmas.{bound_there}
use Rattle.row_screens.proofs.range.ends_of.Goals as goal

pub loop-bound-preserved : goal.loop-bound-preserved
loop-bound-preserved c =
    let items = c.as_slice-bound-items.result.now in
    c.with_bound-ends.ensures c.args.bounds.now (bound_there items c.args.bounds.now c.loop-bound.bound-index _ c.as_slice-bound-items.ensures.same c.loop-bound-test.true) c.loop-bound.invariant
