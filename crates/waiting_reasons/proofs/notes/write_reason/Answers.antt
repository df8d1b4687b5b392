use Rattle.std.proofs.Common.{subst}
use Rattle.waiting_reasons.specs.Inside.{ReasonCounts}
use Rattle.waiting_reasons.proofs.notes.write_reason.Goals as goal

pub write_filled-requires-clause-count : goal.write_filled-requires-clause-count
write_filled-requires-clause-count c = subst (ReasonCounts c.args.patterns) c.in-Fullest.is c.requires.counts
