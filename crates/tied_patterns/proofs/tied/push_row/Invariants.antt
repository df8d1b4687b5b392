use Rattle.std.proofs.Common.{length}
use Rattle.tied_patterns.specs.Rows.{AreFound}
use Rattle.tied_patterns.proofs.tied.push_row.Given as goal

abbrev pub invariant-loop-second : goal.invariant-loop-second
invariant-loop-second l = AreFound l.equalities (length l.kinds) l.first l.second l.pairs
