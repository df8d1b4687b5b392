use Rattle.std.proofs.Common.{◌≡◌, drop, take}
use Rattle.std.specs.List.{AllByRecursion, flat_map}
use Rattle.pattern_core.specs.Suits.{SlotsSuit}
use Rattle.waiting_reasons.specs.Ways.{longer_at}
use Rattle.waiting_reasons.proofs.ways.grow.Given as goal

-- those that are left suit, and what the others give
abbrev pub invariant-loop-slots : goal.invariant-loop-slots
invariant-loop-slots l = record {
  all : AllByRecursion (SlotsSuit l.messages l.definition.patterns) (drop l.slots-index l.slots-items);
  told : l.more ≡ flat_map (longer_at l.messages l.definition l.seen l.place) (take l.slots-index l.slots-items);
}
