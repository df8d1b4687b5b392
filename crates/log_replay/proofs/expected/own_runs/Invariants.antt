use Rattle.std.proofs.Common.{◌≡◌, ◌++◌, length}
use Rattle.std.specs.Prelude.{reverse}
use Rattle.log_replay.specs.Shared.{own_runs}
use Rattle.log_replay.proofs.expected.own_runs.Given as goal

abbrev pub invariant-loop-shared : goal.invariant-loop-shared
invariant-loop-shared l = l.runs ++ own_runs (reverse l.rest.items) ≡ own_runs (reverse l.initial.rest.items)

abbrev pub decreases-loop-shared : goal.decreases-loop-shared
decreases-loop-shared l = length l.rest.items
