use Rattle.std.proofs.Common.{◌≡◌, ◌++◌, length}
use Rattle.std.specs.Prelude.{reverse}
use Rattle.log_replay.specs.Shared.{finished_all}
use Rattle.log_replay.proofs.settling.finished_runs.Given as goal

abbrev pub invariant-loop-own : goal.invariant-loop-own
invariant-loop-own l = record {
  left : l.runs ++ finished_all l.plan (length l.runs) (reverse l.owns.items) (reverse l.settlements.items) ≡ finished_all l.plan 0 (reverse l.initial.owns.items) (reverse l.initial.settlements.items);
  many : length l.settlements.items ≡ length l.owns.items;
}

abbrev pub decreases-loop-own : goal.decreases-loop-own
decreases-loop-own l = length l.owns.items
