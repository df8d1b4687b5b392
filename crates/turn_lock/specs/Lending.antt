-- What contracts read of a turn in hand, and what a turn is after its cell was lent.
use Rattle.std.specs.Prelude.{ℕ}
use Rattle.std.specs.Borrow.{Lends, MutBor, Fml}
use denote.RattleType.{RattleType}
use Rattle.turn_lock.specs.declared.held.Held.{Held}
use Rattle.turn_lock.specs.contracts.held.Held.{the_row}

-- the cell that the turn has in hand
abbrev pub cell_of : {C : Type 0} → Held C → C
cell_of h = h.cell

-- the number of that cell
abbrev pub index_of : {C : Type 0} → Held C → ℕ
index_of h = h.index

-- the same turn with another cell in hand
abbrev pub with_cell : {C : Type 0} → Held C → C → Held C
with_cell h c = record h { cell = c }

-- the turn ends with the last value behind r as its cell
abbrev pub LendsCell : (R : RattleType) → MutBor (Held R.Denot) → MutBor R.Denot → Fml
LendsCell R s r = Lends (the_row R) R s r (with_cell s.now)
