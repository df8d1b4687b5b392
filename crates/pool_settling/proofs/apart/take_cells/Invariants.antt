use Rattle.std.proofs.Common.{◌≡◌, ◌++◌, length}
use Rattle.pool_settling.specs.Flat.{senders_from, receivers_from, actors_in}
use Rattle.pool_settling.proofs.apart.take_cells.Given as goal

abbrev pub invariant-loop-cell : goal.invariant-loop-cell
invariant-loop-cell l = record {
  number : l.number ≡ length l.yielded;
  senders : l.senders.items ≡ l.initial.senders.items ++ senders_from 0 l.yielded;
  receivers : l.receivers.items ≡ l.initial.receivers.items ++ receivers_from 0 l.yielded;
  actors : l.actors.items ≡ l.initial.actors.items ++ actors_in l.yielded;
}
