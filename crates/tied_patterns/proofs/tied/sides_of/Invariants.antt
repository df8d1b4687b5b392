use Rattle.std.proofs.Common.{◌≡◌, ◌++◌, drop}
use Rattle.tied_patterns.specs.Names.{sides_of}
use Rattle.tied_patterns.proofs.tied.sides_of.Given as goal

abbrev pub invariant-loop-equality : goal.invariant-loop-equality
invariant-loop-equality l = l.sides.items ++ sides_of (drop l.equality-index l.equalities) ≡ sides_of l.equalities
