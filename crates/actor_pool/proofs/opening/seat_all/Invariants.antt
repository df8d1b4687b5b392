use Rattle.std.proofs.Common.{◌≡◌, ◌++◌, All, length, map, reverse}
use Rattle.turn_lock.specs.declared.view.Turn.TheVariants.{Free}
use Rattle.turn_lock.specs.View.{IsFirst}
use Rattle.turn_lock.specs.Seats.{view_of, IsOf}
use Rattle.actor_pool.specs.Posters.{IsSeated, feed_ends}
use Rattle.actor_pool.proofs.opening.seat_all.Given as goal

abbrev pub invariant-loop-own : goal.invariant-loop-own
invariant-loop-own l = record {
  own : IsOf l.turns l.seat;
  free : (view_of l.seat).turn ≡ Free;
  tags : (view_of l.seat).tags ≡ (view_of l.initial.seat).tags;
  first : IsFirst (length l.posters.items) (view_of l.seat);
  posters : map feed_ends l.posters.items ++ reverse l.ends.items ≡ l.fn.ends.items;
  seated : All (IsSeated l.turns) l.posters.items;
}

abbrev pub decreases-loop-own : goal.decreases-loop-own
decreases-loop-own l = length l.ends.items
