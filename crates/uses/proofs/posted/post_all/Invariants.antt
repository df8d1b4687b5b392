use Rattle.std.proofs.Common.{◌≡◌, take}
use Rattle.actor_pool.specs.Helpers.{IsHelperOf, seat_of}
use Rattle.actor_pool.specs.Posters.{IsPosterOf, SendsAll, feed_links, feed_tag}
use Rattle.uses.proofs.posted.post_all.Given as goal

abbrev pub invariant-loop-actor : goal.invariant-loop-actor
invariant-loop-actor g l = record {
  poster : IsPosterOf l.pool l.poster;
  tag : feed_tag l.poster ≡ feed_tag l.initial.poster;
  sent : SendsAll (feed_links l.initial.poster) (take l.actor-index l.posts) (feed_links l.poster);
  helper : IsHelperOf l.pool l.helper;
  role : (seat_of l.helper).role ≡ (seat_of l.initial.helper).role;
  tags : (seat_of l.helper).tags ≡ (seat_of l.initial.helper).tags;
}
