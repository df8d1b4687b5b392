use Rattle.std.proofs.Common.{◌≡◌, ◌+◌, ◌^◌, ◌<◌, drop}
use Rattle.log_replay.specs.Kept.{entries_size, link_fault}
use Rattle.log_replay.proofs.kept.link_fault.Given as goal

abbrev pub invariant-loop-entry : goal.invariant-loop-entry
invariant-loop-entry l = record {
  told : link_fault l.left l.fn.from l.fn.runs_on l.fn.late l.line 0 (drop l.entry-index l.entries) ≡ link_fault l.fn.posts l.fn.from l.fn.runs_on l.fn.late l.fn.first 0 l.entries;
  small : l.line + entries_size (drop l.entry-index l.entries) + l.fn.late < 2 ^ 64;
}
