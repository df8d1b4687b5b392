use Rattle.std.proofs.Common.{◌≡◌, ◌++◌, ◌-◌, ◌<◌, ◌≤◌, ℕ, length}
use Rattle.run_fit_law.specs.FitsLaw.{RulesFit}
use Rattle.log_replay.specs.Shared.{whole_runs}
use Rattle.log_replay.proofs.expected.whole_runs.Given as goal

abbrev pub invariant-loop-index : goal.invariant-loop-index
invariant-loop-index g l = record {
  left : l.runs ++ whole_runs l.plan l.run l.index (length l.plan.actors - l.index) ≡ whole_runs l.plan l.run 0 (length l.plan.actors);
  within : l.index ≤ length l.plan.actors;
  texts : (actor : ℕ) → actor < l.index → RulesFit l.plan l.run.limits actor;
}

abbrev pub decreases-loop-index : goal.decreases-loop-index
decreases-loop-index g l = length l.plan.actors - l.index
