use Rattle.std.proofs.Common.{length}
use Rattle.std.specs.Prelude.{reverse}
use Rattle.log_replay.proofs.HandedLemmas.{Walks}
use Rattle.log_replay.proofs.handed.made_as_read.Given as goal

abbrev pub invariant-loop-entry : goal.invariant-loop-entry
invariant-loop-entry g l = Walks l.plan l.fn.limits l.fn.feeds l.fn.index l.actor l.stamps (reverse l.rest.items) l.fn.entries

abbrev pub decreases-loop-entry : goal.decreases-loop-entry
decreases-loop-entry g l = length l.rest.items
