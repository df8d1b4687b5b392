use Rattle.std.proofs.Common.{◌≡◌, ◌≤◌, count_by, take}
use Rattle.feed_causes.specs.Causes.{is_from}
use Rattle.feed_causes.proofs.origins.received.Given as goal

abbrev pub invariant-loop-arrival : goal.invariant-loop-arrival
invariant-loop-arrival l = record {
  counted : l.count ≡ count_by (is_from l.fn.from l.fn.to) (take l.arrival-index l.before);
  within : l.count ≤ l.arrival-index;
}
