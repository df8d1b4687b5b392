use Rattle.std.proofs.Common.{take}
use Rattle.tied_patterns.specs.Names.{AreNames}
use Rattle.tied_patterns.proofs.tied.names_of.Given as goal

abbrev pub invariant-loop-equality : goal.invariant-loop-equality
invariant-loop-equality l = AreNames (take l.equality-index l.equalities) l.names.items
