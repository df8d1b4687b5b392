use Rattle.std.proofs.Common.{◌≡◌, drop}
use Rattle.waiting_reasons.specs.Gone.{taker}
use Rattle.waiting_reasons.proofs.gone.taker.Given as goal

-- the arrivals that are left decide
abbrev pub invariant-loop-entry : goal.invariant-loop-entry
invariant-loop-entry l = taker l.number (drop l.entry-index l.entries) ≡ taker l.number l.entries
