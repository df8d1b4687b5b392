use Rattle.std.proofs.Common.{length}
use Rattle.log_reader.proofs.ReadLemmas.{ReadsLines}
use Rattle.log_reader.proofs.read.read_log.Given as goal

abbrev pub invariant-lines : goal.invariant-lines
invariant-lines l = ReadsLines l.plan l.bytes l.rest l.number l.draft

abbrev pub decreases-lines : goal.decreases-lines
decreases-lines l = length l.rest
