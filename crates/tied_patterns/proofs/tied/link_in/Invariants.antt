use Rattle.std.proofs.Common.{◌≡◌, drop}
use Rattle.tied_patterns.specs.Names.{link_in}
use Rattle.tied_patterns.proofs.tied.link_in.Given as goal

abbrev pub invariant-loop-other : goal.invariant-loop-other
invariant-loop-other l = link_in l.names l.place l.first l.second (drop l.other-index l.others) ≡ link_in l.names l.place l.first l.second l.others
