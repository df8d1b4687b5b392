use Rattle.std.proofs.Common.{◌≡◌, map, take}
use Rattle.uses.specs.OwnLog.{firing_count}
use Rattle.uses.proofs.own_log.counts_of.Given as goal

abbrev pub invariant-loop-own : goal.invariant-loop-own
invariant-loop-own l = l.counts ≡ map firing_count (take l.own-index l.runs)
