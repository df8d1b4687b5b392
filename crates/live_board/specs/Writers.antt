-- What contracts read of a writer and of its notes.
use Rattle.std.specs.Prelude.{◌≡◌, ℕ, List, [], ◌∷◌, ◌++◌, length}
use Rattle.logbook.specs.Pages.{Book}
use Rattle.live_board.specs.declared.record.Record.{Record}
use Rattle.live_board.specs.declared.writer.BoardWriter.{BoardWriter}
use Rattle.live_board.specs.declared.note.BoardNote.{BoardNote}
use Rattle.live_board.specs.History.{front_book, front_records}

-- the records that were published, the oldest first
abbrev pub published : BoardWriter → List Record
published w = front_records w.writer.desk.shown.value.front

-- which board it is
abbrev pub writer_book : BoardWriter → Book
writer_book w = front_book w.writer.desk.shown.value.front

-- how many actors the board has
abbrev pub row_count : BoardWriter → ℕ
row_count w = length w.room

-- the same board, on which the same was published
abbrev pub Stays : BoardWriter → BoardWriter → Type 0
Stays old now = (published now ≡ published old) × (writer_book now ≡ writer_book old) × (row_count now ≡ row_count old)

-- the list that a note knows, and of which board
abbrev pub noted : BoardNote → List Record
noted n = front_records n.front

abbrev pub note_book : BoardNote → Book
note_book n = front_book n.front

-- the note knows a published list that ends with this record
abbrev pub EndsWith : Record → BoardNote → Type 0
EndsWith r note = (before : List Record) × (noted note ≡ before ++ r ∷ [])
