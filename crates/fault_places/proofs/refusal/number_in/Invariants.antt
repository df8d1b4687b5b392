use Rattle.std.proofs.Common.{length}
use Rattle.fault_places.proofs.refusal.number_in.Given as goal

abbrev pub decreases-digits : goal.decreases-digits
decreases-digits l = length l.rest
