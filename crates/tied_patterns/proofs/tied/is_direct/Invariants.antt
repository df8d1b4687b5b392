use Rattle.std.proofs.Common.{◌≡◌, drop}
use Rattle.tied_patterns.specs.Names.{is_direct}
use Rattle.tied_patterns.proofs.tied.is_direct.Given as goal

abbrev pub invariant-loop-equality : goal.invariant-loop-equality
invariant-loop-equality l = is_direct (drop l.equality-index l.equalities) l.first l.second ≡ is_direct l.equalities l.first l.second
