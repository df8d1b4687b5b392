use Rattle.std.proofs.Common.{◌≡◌, ◌<◌, ◌++◌, All, length, map, reverse}
use Rattle.actor_pool.specs.Beside.{FitsOpening}
use Rattle.actor_pool.specs.Helpers.{IsHelperOf, IsFirstHelper, actor_count, seat_of}
use Rattle.actor_pool.specs.Posters.{IsPosterOf}
use Rattle.pool_run.specs.Parts.{HasTags, IsPart, part_helper, part_poster, part_posts}
use Rattle.pool_run.proofs.handing.feed_parts.Given as goal

abbrev pub invariant-loop-poster : goal.invariant-loop-poster
invariant-loop-poster g l = record {
  own : IsHelperOf l.pool l.helper;
  first : IsFirstHelper l.pool (length l.parts.items) l.helper;
  tags : (seat_of l.helper).tags ≡ (seat_of l.initial.helper).tags;
  parts : All (IsPart l.pool g.B.Beside.fits) l.parts.items;
  known : All (λ part. HasTags (seat_of l.initial.helper).tags (part_helper part)) l.parts.items;
  posters : map part_poster l.parts.items ++ reverse l.posters.items ≡ l.fn.posters.items;
  posts : map part_posts l.parts.items ++ reverse l.lists.items ≡ l.fn.feeds;
  same : length l.lists.items ≡ length l.posters.items;
  even : length l.besides.items ≡ length l.posters.items;
  left : All (IsPosterOf l.pool) l.posters.items;
  exist : All (All (λ post. post.0 < actor_count l.pool)) l.lists.items;
  opening : All (FitsOpening g.B.Beside.fits) l.besides.items;
}

abbrev pub decreases-loop-poster : goal.decreases-loop-poster
decreases-loop-poster g l = length l.posters.items
