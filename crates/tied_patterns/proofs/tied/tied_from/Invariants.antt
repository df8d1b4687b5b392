use Rattle.std.proofs.Common.{◌≡◌, drop}
use Rattle.tied_patterns.specs.Names.{tied_from}
use Rattle.tied_patterns.proofs.tied.tied_from.Given as goal

abbrev pub invariant-loop-place : goal.invariant-loop-place
invariant-loop-place l = tied_from l.names l.sides l.first l.second (drop l.place-index l.places) ≡ tied_from l.names l.sides l.first l.second l.places
