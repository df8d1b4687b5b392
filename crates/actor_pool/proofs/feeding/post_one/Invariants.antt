use Rattle.std.proofs.Common.{◌≡◌}
use Rattle.cell_links.specs.Ends.{SendsSame}
use Rattle.actor_pool.specs.Beside.{FitsSeen}
use Rattle.actor_pool.specs.Helpers.{HelperGoesOn, seat_of}
use Rattle.actor_pool.specs.Posters.{IsPosterOf, feed_tag, feed_links}
use Rattle.actor_pool.proofs.feeding.post_one.Given as goal

abbrev pub invariant-loop : goal.invariant-loop
invariant-loop g l = record {
  poster : IsPosterOf l.pool l.poster;
  tag : feed_tag l.poster ≡ feed_tag l.initial.poster;
  goes_on : HelperGoesOn l.pool l.initial.helper l.helper;
  same : SendsSame (feed_links l.initial.poster) (feed_links l.poster);
  message : l.message ≡ l.initial.message;
  fits : FitsSeen g.B.Beside.fits (seat_of l.helper) l.beside;
}
