use Rattle.std.proofs.Common.{◌≡◌, ◌+◌, ◌^◌, ◌<◌, drop}
use Rattle.log_replay.specs.Kept.{posts_fault, sections_fault, sections_size}
use Rattle.log_replay.specs.Shared.{shown_run}
use Rattle.log_replay.proofs.kept.posts_fault.Given as goal

abbrev pub invariant-loop-to : goal.invariant-loop-to
invariant-loop-to l = record {
  left : sections_fault l.run (shown_run l.run l.expected) l.to l.line (drop l.to l.run.actors) ≡ posts_fault l.run (shown_run l.run l.expected);
  small : l.line + sections_size (drop l.to l.run.actors) < 2 ^ 64;
}
