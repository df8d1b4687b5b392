use Rattle.std.proofs.Common.{◌≡◌, ◌+◌, All, length}
use Rattle.actor_pool.specs.Beside.{FitsSeen}
use Rattle.actor_pool.specs.Helpers.{IsHelperOf, IsFirstHelper, seat_of}
use Rattle.pool_run.specs.Parts.{IsJoinable}
use Rattle.pool_run.proofs.handing.join_helpers.Given as goal

abbrev pub invariant-loop-back : goal.invariant-loop-back
invariant-loop-back g l = record {
  own : IsHelperOf l.pool l.helper;
  first : IsFirstHelper l.pool (length l.helpers.items) l.helper;
  tags : (seat_of l.helper).tags ≡ (seat_of l.initial.helper).tags;
  joinable : All (IsJoinable l.pool g.B.Beside.fits (seat_of l.initial.helper).tags) l.helpers.items;
  count : length l.besides.items + length l.helpers.items ≡ length l.fn.helpers.items;
  seen : All (FitsSeen g.B.Beside.fits (seat_of l.helper)) l.besides.items;
}

abbrev pub decreases-loop-back : goal.decreases-loop-back
decreases-loop-back g l = length l.helpers.items
