use Rattle.std.proofs.Common.{sym}
use Rattle.log_audit.proofs.RowLemmas.{first_small}
use Rattle.log_audit.proofs.rows.first_row.Goals as goal

pub returns-in-Some-clause-small : goal.returns-in-Some-clause-small
returns-in-Some-clause-small c =
    first_small c.args.actor c.args.before c.loop-place.place c.loop-place.count c.args.posts.now c.split_at.result.1.now c.index-posts-place.result c.in-Some.row c.loop-place-test.true c.loop-place.invariant.counted c.split_at.ensures.back (sym c.in-Some.ensures) c.requires
