-- What contracts read of a seat and of a lock.
use Rattle.std.specs.Prelude.{◌≡◌, ℕ}
use Rattle.turn_lock.specs.declared.view.View.{View}
use Rattle.turn_lock.specs.declared.view.Turn.TheVariants.{Free}
use Rattle.turn_lock.specs.declared.seat.TurnSeat.{TurnSeat}
use Rattle.turn_lock.specs.declared.turns.Turns.{Turns}

-- what the seat knows
abbrev pub view_of : {C G E L : Type 0} {g : _} → TurnSeat C G E L g → View G E L
view_of s = s.seat.me.0

-- how many cells the lock has
abbrev pub cell_count : {C G E L : Type 0} → Turns C G E L → ℕ
cell_count t = t.table.shared.table_id.slots

-- the seat belongs to the lock
abbrev pub IsOf : {C G E L : Type 0} {g : _} → Turns C G E L → TurnSeat C G E L g → Type 0
IsOf t s = s.seat.table_id ≡ t.table.shared.table_id

-- the same seat of the same lock
abbrev pub IsSameSeat : {C G E L : Type 0} {g : _} → TurnSeat C G E L g → TurnSeat C G E L g → Type 0
IsSameSeat s t = (t.seat.table_id ≡ s.seat.table_id) × (t.seat.id ≡ s.seat.id)

-- for a layer above, after calls that keep no turn: a seat of the same lock, with no turn, and first or not as before
abbrev pub IsStill : {C G E L : Type 0} {g : _} → TurnSeat C G E L g → TurnSeat C G E L g → Type 0
IsStill s t = (t.seat.table_id ≡ s.seat.table_id) × ((view_of t).turn ≡ Free) × ((view_of t).role ≡ (view_of s).role)
