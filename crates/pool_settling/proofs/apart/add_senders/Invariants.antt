use Rattle.std.proofs.Common.{◌≡◌, ◌++◌, map}
use Rattle.pool_settling.specs.Flat.{sender_of}
use Rattle.pool_settling.proofs.apart.add_senders.Given as goal

abbrev pub invariant-loop-one : goal.invariant-loop-one
invariant-loop-one l = l.senders.items ≡ l.initial.senders.items ++ map (sender_of l.source) l.yielded
