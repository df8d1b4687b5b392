use Rattle.std.proofs.Common.{◌≡◌, ◌++◌, drop}
use Rattle.feed_causes.specs.Causes.{arrivals_from}
use Rattle.feed_causes.proofs.arrivals.arrivals_in.Given as goal

abbrev pub invariant-loop-actor : goal.invariant-loop-actor
invariant-loop-actor l = l.arrivals ++ arrivals_from l.actor (drop l.actor l.runs) ≡ arrivals_from 0 l.runs
