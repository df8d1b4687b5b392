use Rattle.std.proofs.Common.{◌≡◌, ◌++◌, drop, length}
use Rattle.fair_semantics.specs.Linked.{arrived}
use Rattle.log_posts.specs.Stamps.{posts_from, stamps_behind}
use Rattle.log_posts.proofs.stamps.stamps_made.Given as goal

abbrev pub invariant-loop-entry : goal.invariant-loop-entry
invariant-loop-entry l = record {
  told : l.stamps ++ stamps_behind l.before (arrived (posts_from l.left.items) (drop l.entry-index l.entries)) ≡ stamps_behind 0 (arrived (posts_from l.fn.links) l.entries);
  many : length l.left.items ≡ length l.fn.links;
}
