use Rattle.matching_tests.specs.Samples.{HasUpTo}
use Rattle.matching_tests.proofs.trees.index_of.Given as goal

abbrev pub invariant-loop-place : goal.invariant-loop-place
invariant-loop-place l = HasUpTo l.index l.messages l.place
