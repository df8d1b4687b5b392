use Rattle.std.proofs.Common.{◌+◌, length}
use Rattle.tied_patterns.specs.Rows.{AreFound}
use Rattle.tied_patterns.proofs.tied.pairs_of.Given as goal

abbrev pub invariant-loop-first : goal.invariant-loop-first
invariant-loop-first l = AreFound l.equalities (length l.kinds) l.first (l.first + 1) l.pairs
