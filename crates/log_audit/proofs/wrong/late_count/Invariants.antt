use Rattle.std.proofs.Common.{◌≡◌, drop}
use Rattle.join_base.specs.declared.message.Source.TheVariants.{Feed}
use Rattle.fair_semantics.specs.Linked.{count_of}
use Rattle.log_audit.proofs.wrong.late_count.Given as goal

abbrev pub invariant-loop-of : goal.invariant-loop-of
invariant-loop-of l = count_of (Feed (l.fn.feed)) (drop l.of-index l.late) ≡ count_of (Feed (l.fn.feed)) l.late
