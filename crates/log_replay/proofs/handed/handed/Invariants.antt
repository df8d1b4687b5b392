use Rattle.std.proofs.Common.{length}
use Rattle.std.specs.Prelude.{reverse}
use Rattle.log_replay.proofs.HandedLemmas.{Hands}
use Rattle.log_replay.proofs.handed.handed.Given as goal

abbrev pub invariant-loop-section : goal.invariant-loop-section
invariant-loop-section g l = Hands l.plan l.fn.run.limits l.fn.run.feeds l.reads l.made (reverse l.sections.items) l.fn.run.actors

abbrev pub decreases-loop-section : goal.decreases-loop-section
decreases-loop-section g l = length l.sections.items
