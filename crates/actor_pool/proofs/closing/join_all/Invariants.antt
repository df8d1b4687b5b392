use Rattle.std.proofs.Common.{◌≡◌, ◌++◌, All, length, map, reverse}
use Rattle.turn_lock.specs.declared.view.Turn.TheVariants.{Free}
use Rattle.turn_lock.specs.View.{IsFirst, HasSeenAll}
use Rattle.turn_lock.specs.Seats.{view_of, IsOf}
use Rattle.actor_pool.specs.Posters.{IsSeated, feed_ends}
use Rattle.actor_pool.proofs.closing.join_all.Given as goal

abbrev pub invariant-loop-poster : goal.invariant-loop-poster
invariant-loop-poster l = record {
  own : IsOf l.turns l.seat;
  free : (view_of l.seat).turn ≡ Free;
  tags : (view_of l.seat).tags ≡ (view_of l.initial.seat).tags;
  seen : HasSeenAll (view_of l.initial.seat) (view_of l.seat);
  first : IsFirst (length l.posters.items) (view_of l.seat);
  seated : All (IsSeated l.turns) l.posters.items;
  ends : l.ends.items ++ map feed_ends (reverse l.posters.items) ≡ map feed_ends l.fn.posters.items;
}

abbrev pub decreases-loop-poster : goal.decreases-loop-poster
decreases-loop-poster l = length l.posters.items
