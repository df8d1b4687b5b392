use Rattle.std.proofs.Common.{◌≡◌, drop}
use Rattle.arrival_log.specs.LogText.{sections}
use Rattle.log_replay.specs.Apart.{IsWithin, behind}
use Rattle.log_replay.specs.Shared.{shown_all}
use Rattle.log_replay.proofs.section.parted_at.Given as goal

abbrev pub invariant-loop-place : goal.invariant-loop-place
invariant-loop-place l = record {
  left : behind l.bytes l.progress (sections l.plan l.run.version (drop l.place l.plan.actors) (shown_all (drop l.place l.run.actors) (drop l.place l.expected))) ≡ behind l.bytes l.initial.progress (sections l.plan l.run.version l.plan.actors (shown_all l.run.actors l.expected));
  within : IsWithin l.bytes l.progress;
}
