use Rattle.std.proofs.Common.{◌∙◌, arith}
use Rattle.std.proofs.lemmas.Option.{slice_get-get_or}
use Rattle.actor_system.proofs.FeedLemmas.{next_at, none_from, passed}
use Rattle.actor_system.proofs.PlaceLemmas.{differ, equal}
use Rattle.actor_system.proofs.feed.next_for.Goals as goal

-- src/feed.rt:13:13
pub returns-then-posts-place : goal.returns-then-posts-place
returns-then-posts-place c = record {
  next = next_at c.args.posts.now c.args.from c.loop-place.place c.args.actor _ (slice_get-get_or c.args.posts.now c.loop-place.place c.index-posts-place.result c.loop-place-test.true) (equal _ _ c.if-posts-place.true) c.loop-place.invariant;
}

-- src/feed.rt:11:5
pub loop-place-preserved : goal.loop-place-preserved
loop-place-preserved c =
    c.loop-place.invariant
    ∙ passed c.args.posts.now c.loop-place.place c.args.actor _ (slice_get-get_or c.args.posts.now c.loop-place.place c.index-posts-place.result c.loop-place-test.true) (differ _ _ c.if-posts-place.false)

-- src/feed.rt:8:1
pub returns : goal.returns
returns c = record { next = c.loop-place.invariant ∙ none_from c.args.posts.now c.loop-place.place c.args.actor (omega (arith, c.loop-place-test.false)) }
