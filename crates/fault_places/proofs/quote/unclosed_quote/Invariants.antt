use Rattle.std.proofs.Common.{length, ◌-◌}
use Rattle.fault_places.proofs.quote.unclosed_quote.Given as goal

abbrev pub decreases-quotes : goal.decreases-quotes
decreases-quotes l = length l.bytes - l.rest
