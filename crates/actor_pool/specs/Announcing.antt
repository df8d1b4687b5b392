-- What an announcement does to the view v of its seat and p of its pass.
use Rattle.std.specs.Prelude.{◌≡◌, ◌⊎◌, ℕ}
use Rattle.turn_lock.specs.View.{marked, unmarked}
use Rattle.turn_lock.specs.Rule.{IsQueued, IsUnqueued}
use Rattle.ready_queue.specs.declared.view.PassView.{PassView}
use Rattle.ready_queue.specs.View.{with_put, with_full}
use Rattle.actor_pool.specs.Helpers.{SeatView}

-- the actor was marked already
abbrev pub WasMarked : ℕ → SeatView → PassView → SeatView → PassView → Type 0
WasMarked i v p w q = (word : ℕ) × IsQueued word × (w ≡ marked i word v) × (q ≡ p)

-- it was not, and its ticket was put
abbrev pub PutsTicket : ℕ → SeatView → PassView → SeatView → PassView → Type 0
PutsTicket i v p w q = (word : ℕ) × IsUnqueued word × (w ≡ marked i word v) × (q ≡ with_put i p)

-- it was not, the queue was full, and the mark was taken back
abbrev pub TakesBack : ℕ → SeatView → PassView → SeatView → PassView → Type 0
TakesBack i v p w q = (word : ℕ) × IsUnqueued word × ((later : ℕ) × (w ≡ unmarked i later (marked i word v))) × (q ≡ with_full p)

abbrev pub Announces : ℕ → SeatView → PassView → SeatView → PassView → Type 0
Announces i v p w q = WasMarked i v p w q ⊎ (PutsTicket i v p w q ⊎ TakesBack i v p w q)
