use Rattle.std.proofs.Common.{◌≡◌, ℕ, ◌+◌, ◌<◌, ◌≤◌, ◌++◌, List, All, length}
use Rattle.join_base.specs.declared.message.Message.{Message}
use Rattle.actor_pool.specs.Beside.{FitsSeen}
use Rattle.actor_pool.specs.Helpers.{HelperGoesOn, seat_of, actor_count}
use Rattle.actor_pool.specs.Posters.{IsPosterOf, SendsAll, feed_tag, feed_links}
use Rattle.actor_pool.proofs.feeding.post_packed.Given as goal

abbrev pub invariant-posts : goal.invariant-posts
invariant-posts g l = record {
  poster : IsPosterOf l.pool l.poster;
  tag : feed_tag l.poster ≡ feed_tag l.initial.poster;
  goes_on : HelperGoesOn l.pool l.initial.helper l.helper;
  fits : FitsSeen g.B.Beside.fits (seat_of l.helper) l.beside;
  exist : All (λ post. post.0 < actor_count l.pool) l.rest;
  sent : (done : List (ℕ × Message)) × (l.packed ≡ done ++ l.rest)
      × SendsAll (feed_links l.initial.poster) done (feed_links l.poster) × ((seat_of l.initial.helper).tries + length done ≤ (seat_of l.helper).tries);
}

abbrev pub decreases-posts : goal.decreases-posts
decreases-posts g l = length l.rest
