use Rattle.std.proofs.Common.{◌≡◌, drop}
use Rattle.tied_patterns.specs.Names.{renamed_by}
use Rattle.tied_patterns.proofs.tied.renamed_by.Given as goal

abbrev pub invariant-loop-name : goal.invariant-loop-name
invariant-loop-name l = renamed_by (drop l.name-index l.names) l.called ≡ renamed_by l.names l.fn.place
