use Rattle.std.proofs.Common.{◌≡◌, ◌++◌, drop}
use Rattle.waiting_reasons.specs.Ways.{alone_at}
use Rattle.waiting_reasons.proofs.ways.alone.Given as goal

-- what is found, and the patterns that are left
abbrev pub invariant-loop-place : goal.invariant-loop-place
invariant-loop-place l = l.found ++ alone_at l.messages l.definition l.number l.place (drop l.place l.definition.patterns) ≡ alone_at l.messages l.definition l.number 0 l.definition.patterns
