use Rattle.std.proofs.Common.{◌≡◌, replicate}
use Rattle.answerer.specs.Fit.{not_read}
use Rattle.answerer.proofs.reading.nothing_read.Given as goal

abbrev pub invariant-loop : goal.invariant-loop
invariant-loop l = l.rows ≡ replicate l.counter not_read
