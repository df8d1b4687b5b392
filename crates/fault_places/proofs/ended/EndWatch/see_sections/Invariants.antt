use Rattle.std.proofs.Common.{length}
use Rattle.fault_places.proofs.ended.EndWatch.see_sections.Given as goal

abbrev pub decreases-sections : goal.decreases-sections
decreases-sections l = length l.rest
