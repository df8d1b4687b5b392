use Rattle.std.proofs.Common.{◌≡◌, ◌+◌, ◌^◌, ◌<◌, drop}
use Rattle.log_replay.specs.Kept.{sections_size}
use Rattle.log_audit.specs.Search.{run_wrong, sections_wrong}
use Rattle.log_audit.proofs.wrong.run_wrong.Given as goal

abbrev pub invariant-loop-actor : goal.invariant-loop-actor
invariant-loop-actor l = record {
  left : sections_wrong l.feeds l.actor l.line (drop l.actor l.run.actors) ≡ run_wrong l.feeds l.run;
  small : l.line + sections_size (drop l.actor l.run.actors) < 2 ^ 64;
}
