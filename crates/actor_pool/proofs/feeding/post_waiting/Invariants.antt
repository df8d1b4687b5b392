use Rattle.std.proofs.Common.{◌≡◌, ℕ, ◌+◌, ◌<◌, ◌≤◌, ◌++◌, List, All, length, reverse}
use Rattle.join_base.specs.declared.message.Message.{Message}
use Rattle.actor_pool.specs.Beside.{FitsSeen}
use Rattle.actor_pool.specs.Helpers.{HelperGoesOn, seat_of, actor_count}
use Rattle.actor_pool.specs.Posters.{IsPosterOf, SendsAll, feed_tag, feed_links}
use Rattle.actor_pool.proofs.feeding.post_waiting.Given as goal

abbrev pub invariant-loop-actor : goal.invariant-loop-actor
invariant-loop-actor g l = record {
  poster : IsPosterOf l.pool l.poster;
  tag : feed_tag l.poster ≡ feed_tag l.initial.poster;
  goes_on : HelperGoesOn l.pool l.initial.helper l.helper;
  fits : FitsSeen g.B.Beside.fits (seat_of l.helper) l.beside;
  exist : All (λ post. post.0 < actor_count l.pool) l.waiting.items;
  sent : (done : List (ℕ × Message)) × (reverse l.initial.waiting.items ≡ done ++ reverse l.waiting.items)
      × SendsAll (feed_links l.initial.poster) done (feed_links l.poster) × ((seat_of l.initial.helper).tries + length done ≤ (seat_of l.helper).tries);
}

abbrev pub decreases-loop-actor : goal.decreases-loop-actor
decreases-loop-actor g l = length l.waiting.items
