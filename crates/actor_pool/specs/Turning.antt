-- What a turn does to the view of its seat, and to the cell.
use Rattle.std.specs.Prelude.{◌≡◌, ◌⊎◌, ℕ, ◌+◌, [], ◌∷◌, Option, Some}
use Rattle.turn_lock.specs.Steps.{Gets, GivesBack, Misses}
use Rattle.actor_cells.specs.declared.cell.Cell.{Cell}
use Rattle.actor_cells.specs.declared.serving.Turned.{Turned}
use Rattle.actor_cells.specs.Lawful.{IsLawful, cell_tag, history_of, tally_of}
use Rattle.actor_cells.specs.Served.{AllSent, IsRefusing, StaysLawful, TakesInTurn}
use Rattle.actor_pool.specs.declared.turning.TurnFault.{TurnFault}
use Rattle.actor_pool.specs.declared.turning.TurnFault.TheVariants.{Busy, NoMemory}
use Rattle.actor_pool.specs.Helpers.{SeatView}

-- one claim and one release, at the actor i
pub record HadTurn (i : ℕ) (v w : SeatView) : Type 0 where
  pub tries : w.tries ≡ v.tries + 2
  pub claims : w.claims ≡ v.claims + 1
  pub latest : (word : ℕ) × (w.latest ≡ Some (i, word))

-- The turn of the actor i: the claim found nobody there and got the cell `found`, and the release gave it back as
-- `left`, which is lawful as before, with a history that goes on. The seat keeps the tallies of both
pub record TakesTurn (i : ℕ) (found left : Cell) (v w : SeatView) : Type 0 where
  pub had : HadTurn i v w
  pub during : SeatView
  pub got : Gets cell_tag IsLawful history_of tally_of i v found during
  pub kept : StaysLawful found left
  pub back : (word : ℕ) × GivesBack history_of tally_of i during left word w
  pub tally_found : w.found ≡ tally_of found ∷ []
  pub tally_left : w.left ≡ tally_of left ∷ []

-- and the tallies show the answer, and each post that is left waits for a link without room
pub record ServedTurn (i : ℕ) (turned : Turned) (v w : SeatView) : Type 0 where
  pub found : Cell
  pub left : Cell
  pub turn : TakesTurn i found left v w
  pub tallies : TakesInTurn (tally_of found) (tally_of left) turned
  pub sent : AllSent left

-- a turn that was given back without memory: the message that was refused waits first on its link
pub record RefusedTurn (i : ℕ) (v w : SeatView) : Type 0 where
  pub found : Cell
  pub left : Cell
  pub turn : TakesTurn i found left v w
  pub refused : IsRefusing left

-- a turn that was given back, after which what stands beside the pool found no memory for what it was shown
pub record UnshownTurn (i : ℕ) (v w : SeatView) : Type 0 where
  pub found : Cell
  pub left : Cell
  pub turn : TakesTurn i found left v w

-- the claim found another seat at the actor, or there was no memory
abbrev pub Faulted : ℕ → TurnFault → SeatView → SeatView → Type 0
Faulted i (Busy word) v w = Misses i v word w
Faulted i NoMemory v w = RefusedTurn i v w

-- the same with something beside the pool, which may want memory for what it is shown
abbrev pub FaultedBeside : Type 0 → ℕ → TurnFault → SeatView → SeatView → Type 0
FaultedBeside wants i (Busy word) v w = Misses i v word w
FaultedBeside wants i NoMemory v w = RefusedTurn i v w ⊎ (wants × UnshownTurn i v w)
