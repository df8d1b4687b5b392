-- What stands beside a pool: what it keeps of the actors that it was shown.
use Rattle.std.specs.Prelude.{◌≡◌, ◌≢◌, ◌↔◌, ℕ, List, [], Some, Result, Ok, Err, slice_get}
use Rattle.join_base.specs.Outside.{Rose}
use Rattle.fair_semantics.specs.Fair.{Sent, after_all}
use Rattle.fair_semantics.specs.Step.{Setting, State, opening}
use Rattle.turn_lock.specs.View.{seen_of}
use Rattle.actor_turn.specs.Held.{Held}
use Rattle.actor_cells.specs.History.{History}
use Rattle.actor_cells.specs.declared.cell.CellTag.{CellTag}
use Rattle.actor_cells.specs.declared.serving.Turned.{Turned}
use Rattle.actor_pool.specs.declared.turning.TurnFault.{TurnFault}
use Rattle.actor_pool.specs.declared.turning.TurnFault.TheVariants.{Busy, NoMemory}
use Rattle.actor_pool.specs.Helpers.{SeatView}

-- what the actor of a tag was told
abbrev pub setting_in : CellTag → Setting
setting_in tag = record { sorts = tag.sorts; rules = tag.rules; limits = tag.limits }

-- the fair steps of some messages lead to the state of an actor that was told this
abbrev pub IsReached : Setting → State → Type 0
IsReached setting state = (feeds : ℕ) × (actors : ℕ) × (sent : List Sent) × (state ≡ after_all setting (opening feeds actors) sent)

-- the state of an actor has the entries that fair steps make of its history
abbrev pub ShowsHistory : Setting → State → History → Type 0
ShowsHistory setting state history = (feeds : ℕ) × (actors : ℕ) × (state.entries ≡ (after_all setting (opening feeds actors) history).entries)

-- when what is kept of an actor fits what arrived at it, by what it was told
abbrev pub Fitting : Type 0 → Type 1
Fitting B = B → ℕ → Setting → History → Type 0

module _ {B : Type 0} (fits : Fitting B) where
  -- it fits every actor at which nothing arrived
  abbrev pub FitsOpening : B → Type 0
  FitsOpening kept = (actor : ℕ) (setting : Setting) → fits kept actor setting []

  -- it fits what this seat has seen of each actor
  abbrev pub FitsSeen : SeatView → B → Type 0
  FitsSeen v kept = (actor : ℕ) (tag : CellTag) → slice_get v.tags actor ≡ Some tag → fits kept actor (setting_in tag) (seen_of v actor)

  -- of all actors but this one it keeps what it kept
  abbrev pub KeepsOthers : B → B → ℕ → Type 0
  KeepsOthers old now actor = (other : ℕ) → other ≢ actor → (setting : Setting) (history : History) → fits old other setting history ↔ fits now other setting history

-- what a turn did to the number of tells: the actor was shown at least once, but for Busy
abbrev pub Shows : Result Turned TurnFault → ℕ → ℕ → Type 0
Shows (Ok turned) before now = Rose before now
Shows (Err (Busy word)) before now = now ≡ before
Shows (Err NoMemory) before now = Rose before now
