use Rattle.std.proofs.Common.{take}
use Rattle.std.specs.List.{AllByRecursion}
use Rattle.row_screens.specs.Offering.{offered}
use Rattle.row_screens.specs.Look.{LooksUpAt}
use Rattle.row_screens.proofs.look.common_look.Given as goal

-- the row is looked up so for the patterns so far
abbrev pub invariant-loop-other : goal.invariant-loop-other
invariant-loop-other l = AllByRecursion (λ p. LooksUpAt (offered l.offer) l.slots l.pattern p l.look) (take l.other-index l.other-items)
