use Rattle.std.proofs.Common.{◌≡◌, ◌≤◌, length, take}
use Rattle.answerer.specs.Asks.{last_place}
use Rattle.answerer.proofs.noting.last_place.Given as goal

-- no ask of the feed stands behind those that are left
abbrev pub invariant-loop-left : goal.invariant-loop-left
invariant-loop-left l = record {
  within : l.left ≤ length l.asks;
  same : last_place l.feed (take l.left l.asks) ≡ last_place l.feed l.asks;
}

abbrev pub decreases-loop-left : goal.decreases-loop-left
decreases-loop-left l = l.left
