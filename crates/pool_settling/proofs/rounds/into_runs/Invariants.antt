use Rattle.std.proofs.Common.{◌≡◌, ◌+◌, ◌≤◌, ◌++◌, length, map, vec_len, vec_capacity}
use Rattle.std.specs.Prelude.{reverse}
use Rattle.pool_settling.specs.Rounds.{run_in}
use Rattle.pool_settling.proofs.rounds.into_runs.Given as goal

abbrev pub invariant-loop-actor : goal.invariant-loop-actor
invariant-loop-actor l = record {
  room : vec_len l.runs + length l.actors.items ≤ vec_capacity l.runs;
  told : map run_in l.actors.items ++ reverse l.runs.items ≡ map run_in l.fn.actors.items;
}

abbrev pub decreases-loop-actor : goal.decreases-loop-actor
decreases-loop-actor l = length l.actors.items
