use Rattle.std.proofs.Common.{◌≡◌, ◌-◌, ◌≤◌, length}
use Rattle.fair_semantics.specs.Linked.{numbers_from}
use Rattle.log_replay.specs.Kept.{links_fault, section_fault}
use Rattle.log_replay.specs.Shared.{shown_run}
use Rattle.log_replay.proofs.kept.section_fault.Given as goal

abbrev pub invariant-loop-from : goal.invariant-loop-from
invariant-loop-from l = record {
  left : links_fault l.run (shown_run l.run l.expected) l.fn.to l.fn.line l.own l.first (numbers_from l.from (length l.run.actors - l.from)) ≡ section_fault l.run (shown_run l.run l.expected) l.fn.to l.fn.line l.own;
  within : l.from ≤ length l.run.actors;
}

abbrev pub decreases-loop-from : goal.decreases-loop-from
decreases-loop-from l = length l.run.actors - l.from
