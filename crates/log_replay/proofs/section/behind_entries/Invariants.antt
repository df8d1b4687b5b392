use Rattle.std.proofs.Common.{◌≡◌, drop}
use Rattle.std.specs.List.{flat_map}
use Rattle.arrival_log.specs.LogText.{entry_lines}
use Rattle.log_posts.specs.Stamps.{with_stamps}
use Rattle.log_replay.specs.Apart.{IsWithin, behind}
use Rattle.log_replay.proofs.section.behind_entries.Given as goal

abbrev pub invariant-loop-place : goal.invariant-loop-place
invariant-loop-place l = record {
  left : behind l.bytes l.progress (flat_map (entry_lines l.plan l.fn.version) (with_stamps (drop l.place l.stamps) (drop l.place l.entries))) ≡ behind l.bytes l.fn.start (flat_map (entry_lines l.plan l.fn.version) (with_stamps l.stamps l.entries));
  within : IsWithin l.bytes l.progress;
}
