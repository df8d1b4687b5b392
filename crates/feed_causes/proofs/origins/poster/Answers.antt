use Rattle.feed_causes.proofs.OriginLemmas.{poster_here, poster_later}
use Rattle.feed_causes.proofs.origins.poster.Goals as goal

pub returns-then-left-count : goal.returns-then-left-count
returns-then-left-count c =
    poster_here c.args.from c.args.to c.args.all.now c.loop-place.place c.loop-place.left c.posts_by-count.result c.index-all-place.result _ c.loop-place-test.true c.index-all-place.is c.posts_by-count.ensures c.loop-place.invariant
    c.if-left-count.true

pub loop-place-preserved : goal.loop-place-preserved
loop-place-preserved c =
    poster_later c.args.from c.args.to c.args.all.now c.loop-place.place c.loop-place.left c.posts_by-count.result c.index-all-place.result _ c.loop-place-test.true c.index-all-place.is c.posts_by-count.ensures c.loop-place.invariant
    c.if-left-count.false
