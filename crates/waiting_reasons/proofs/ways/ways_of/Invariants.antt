use Rattle.std.proofs.Common.{◌≡◌, drop}
use Rattle.std.specs.List.{AllByRecursion}
use Rattle.pattern_core.specs.Suits.{SlotsSuit}
use Rattle.waiting_reasons.specs.Ways.{grown_at, ways}
use Rattle.waiting_reasons.proofs.ways.ways_of.Given as goal

-- the patterns that are left lead to all ways, and those so far suit
abbrev pub invariant-loop-place : goal.invariant-loop-place
invariant-loop-place l = record {
  told : grown_at l.messages l.definition l.seen l.place (drop l.place l.definition.patterns) l.ways ≡ ways l.messages l.definition l.seen l.number;
  all : AllByRecursion (SlotsSuit l.messages l.definition.patterns) l.ways;
}
