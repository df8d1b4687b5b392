use Rattle.std.proofs.Common.{length}
use Rattle.fault_places.proofs.ended.section_of.Given as goal

abbrev pub decreases-lines : goal.decreases-lines
decreases-lines l = length l.rest
