use Rattle.std.proofs.Common.{◌≡◌, ◌+◌, ◌≤◌, drop, length}
use Rattle.join_base.specs.declared.message.Source.TheVariants.{Actor}
use Rattle.fair_semantics.specs.Linked.{taken_from}
use Rattle.log_posts.proofs.lates.count_from.Given as goal

abbrev pub invariant-loop-entry : goal.invariant-loop-entry
invariant-loop-entry l = record {
  left : l.count + length (taken_from (Actor (l.fn.from)) (drop l.entry-index l.entries)) ≡ length (taken_from (Actor (l.fn.from)) l.entries);
  few : l.count ≤ l.entry-index;
}
