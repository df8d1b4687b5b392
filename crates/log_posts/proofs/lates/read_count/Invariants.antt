use Rattle.std.proofs.Common.{◌≡◌, drop}
use Rattle.fair_semantics.specs.Linked.{count_of}
use Rattle.log_posts.proofs.lates.read_count.Given as goal

abbrev pub invariant-loop-of : goal.invariant-loop-of
invariant-loop-of l = count_of l.fn.source (drop l.of-index l.late) ≡ count_of l.fn.source l.late
