use Rattle.std.proofs.Common.{◌≡◌, length}
use Rattle.matching_tests.proofs.trees.patterns.Given as goal

abbrev pub invariant-loop-place : goal.invariant-loop-place
invariant-loop-place l = length l.patterns ≡ l.place
