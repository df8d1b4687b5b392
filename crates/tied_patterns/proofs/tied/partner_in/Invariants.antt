use Rattle.std.proofs.Common.{◌≡◌, drop}
use Rattle.tied_patterns.specs.Names.{partner_in}
use Rattle.tied_patterns.proofs.tied.partner_in.Given as goal

abbrev pub invariant-loop-other : goal.invariant-loop-other
invariant-loop-other l = partner_in l.names l.place l.pattern (drop l.other-index l.others) ≡ partner_in l.names l.place l.pattern l.others
