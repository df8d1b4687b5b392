use Rattle.std.proofs.Common.{◌≡◌, ◌++◌, take}
use Rattle.std.specs.List.{flat_map}
use Rattle.waiting_reasons.specs.Ways.{longer}
use Rattle.waiting_reasons.proofs.ways.push_longer_at.Given as goal

abbrev pub invariant-loop-number : goal.invariant-loop-number
invariant-loop-number l = l.found ≡ l.initial.found ++ flat_map (longer l.messages l.definition l.slots l.place) (take l.number-index l.seen)
