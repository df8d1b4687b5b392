use Rattle.std.proofs.Common.{◌≡◌, ◌++◌, drop, map}
use Rattle.feed_causes.specs.Causes.{at_actor}
use Rattle.feed_causes.proofs.arrivals.push_entries.Given as goal

abbrev pub invariant-loop-entry : goal.invariant-loop-entry
invariant-loop-entry l = l.arrivals ++ map (at_actor l.fn.actor) (drop l.entry-index l.entries) ≡ l.initial.arrivals ++ map (at_actor l.fn.actor) l.entries
