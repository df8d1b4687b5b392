use Rattle.std.proofs.Common.{sym, arith}
use Rattle.log_audit.proofs.RowLemmas.{none_left}
use Rattle.log_audit.proofs.rows.row_count.Goals as goal

pub returns : goal.returns
returns c =
    let none = none_left c.loop-count.rest (sym c.in_default.ensures.first) in
    let left = c.loop-count.invariant.left in
    let small = c.loop-count.invariant.small in
    omega (arith, none, left, small)
