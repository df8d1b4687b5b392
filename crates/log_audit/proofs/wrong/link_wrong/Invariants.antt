use Rattle.std.proofs.Common.{◌≡◌, ◌+◌, ◌^◌, ◌<◌, drop}
use Rattle.log_replay.specs.Kept.{entries_size}
use Rattle.log_audit.specs.Search.{link_wrong}
use Rattle.log_audit.proofs.wrong.link_wrong.Given as goal

abbrev pub invariant-loop-entry : goal.invariant-loop-entry
invariant-loop-entry l = record {
  told : link_wrong l.fn.feed l.fn.late l.fn.lates l.line l.left (drop l.entry-index l.entries) ≡ link_wrong l.fn.feed l.fn.late l.fn.lates l.fn.first l.fn.rows l.entries;
  small : l.line + entries_size (drop l.entry-index l.entries) + l.fn.lates < 2 ^ 64;
}
