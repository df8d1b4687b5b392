use Rattle.std.proofs.Common.{◌≡◌, ◌++◌, map}
use Rattle.pool_settling.specs.Flat.{receiver_of}
use Rattle.pool_settling.proofs.apart.add_receivers.Given as goal

abbrev pub invariant-loop-one : goal.invariant-loop-one
invariant-loop-one l = l.receivers.items ≡ l.initial.receivers.items ++ map (receiver_of l.target) l.yielded
