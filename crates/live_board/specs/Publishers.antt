-- What contracts read of a publisher.
use Rattle.std.specs.Prelude.{◌≡◌, ℕ, List, Option, None, Some, slice_index_or, slice_set}
use Rattle.actor_turn.specs.Held.{Held}
use Rattle.live_board.specs.declared.note.BoardNote.{BoardNote}
use Rattle.live_board.specs.declared.publisher.Publisher.{Publisher}
use Rattle.live_board.specs.declared.record.Record.{Record}
use Rattle.live_board.specs.Totalling.{totals_of}
use Rattle.live_board.specs.Writers.{EndsWith}

-- for each actor the note that is kept, or none
abbrev pub notes_of : {W : Type 0} → Publisher W → List (Option BoardNote)
notes_of p = p.notes.items

abbrev pub note_of : {W : Type 0} → Publisher W → ℕ → Option BoardNote
note_of p actor = slice_index_or (notes_of p) actor None

-- the totals of an actor that holds this
abbrev pub record_of : ℕ → Held → Record
record_of actor held = record { actor = actor; totals = totals_of held.state.entries }

-- of the record's actor a note is kept now that knows a published list which ends with the record. The other notes stay
abbrev pub KeepsNote : Record → List (Option BoardNote) → List (Option BoardNote) → Type 0
KeepsNote r before now = (note : BoardNote) × EndsWith r note × (now ≡ slice_set before r.actor (Some note))
