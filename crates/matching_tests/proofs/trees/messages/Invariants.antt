use Rattle.std.proofs.Common.{◌≡◌, length}
use Rattle.matching_tests.specs.Samples.{AreInts}
use Rattle.matching_tests.proofs.trees.messages.Given as goal

abbrev pub invariant-loop-arrival : goal.invariant-loop-arrival
invariant-loop-arrival l = record {
  ints : AreInts l.messages;
  count : length l.messages ≡ l.arrival-index;
}
