use Rattle.std.proofs.Common.{◌≡◌, length}
use Rattle.matching_tests.proofs.indexes.rising.Given as goal

abbrev pub invariant-loop-value : goal.invariant-loop-value
invariant-loop-value l = length l.messages ≡ l.value
