use Rattle.std.proofs.Common.{◌≡◌, ◌+◌, ◌++◌, length}
use Rattle.pool_settling.specs.Flat.{fed_from}
use Rattle.pool_settling.proofs.apart.take_posters.Given as goal

abbrev pub invariant-loop-poster : goal.invariant-loop-poster
invariant-loop-poster l = record {
  number : l.number ≡ length l.yielded + 1;
  senders : l.senders.items ≡ l.initial.senders.items ++ fed_from 1 l.yielded;
}
