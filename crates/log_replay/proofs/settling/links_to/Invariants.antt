use Rattle.std.proofs.Common.{◌≡◌, ◌++◌, ◌-◌, ◌≤◌, length}
use Rattle.log_replay.specs.Settling.{links_to}
use Rattle.log_replay.specs.Shared.{shown_all}
use Rattle.log_replay.proofs.settling.links_to.Given as goal

abbrev pub invariant-loop-from : goal.invariant-loop-from
invariant-loop-from l = record {
  left : l.links ++ links_to (shown_all l.run.actors l.made) l.run l.fn.to l.from (length l.run.actors - l.from) ≡ links_to (shown_all l.run.actors l.made) l.run l.fn.to 0 (length l.run.actors);
  within : l.from ≤ length l.run.actors;
}

abbrev pub decreases-loop-from : goal.decreases-loop-from
decreases-loop-from l = length l.run.actors - l.from
