use Rattle.std.proofs.Common.{◌≡◌, ◌+◌, drop, length}
use Rattle.fair_semantics.specs.StampLaw.{arrivals_of}
use Rattle.log_replay.proofs.check.arrival_count.Given as goal

abbrev pub invariant-loop-own : goal.invariant-loop-own
invariant-loop-own l = l.count + length (arrivals_of (drop l.own-index l.own-items)) ≡ length (arrivals_of l.run.actors)
