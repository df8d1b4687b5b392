use Rattle.std.proofs.Common.{◌≡◌, ℕ, ◌<◌}
use Rattle.std.specs.Prelude.{slice_index_or}
use Rattle.pool_settling.specs.declared.ends.Receiver.{Receiver}
use Rattle.pool_settling.specs.Ends.{AreStanding, GivenAsCame, GoOn, HasAll, entries, receiver_keys}
use Rattle.pool_settling.proofs.draining.drain_all.Given as goal

abbrev pub invariant-loop-place : goal.invariant-loop-place
invariant-loop-place g l = record {
  senders : entries l.senders.items ≡ entries l.initial.senders.items;
  keys : receiver_keys l.receivers.items ≡ receiver_keys l.initial.receivers.items;
  drained : (k : ℕ) (d : Receiver) → k < l.place → HasAll (entries l.initial.senders.items) (slice_index_or l.receivers.items k d);
  standing : AreStanding (entries l.initial.senders.items) l.receivers.items l.actors.items;
  on : GoOn l.initial.actors.items l.actors.items;
  given : GivenAsCame l.initial.actors.items l.actors.items l.initial.receivers.items l.receivers.items;
}
