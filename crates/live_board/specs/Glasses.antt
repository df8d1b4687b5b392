-- What contracts read of glasses.
use Rattle.std.specs.Prelude.{◌≡◌, ℕ, List, [], ◌∷◌}
use Rattle.left_right.specs.Sides.{view}
use Rattle.live_board.specs.declared.record.Record.{Record}
use Rattle.logbook.specs.Pages.{Book}
use Rattle.live_board.specs.History.{front_book, front_records}
use Rattle.live_board.specs.declared.snapshot.Snapshot.{Snapshot}
use Rattle.live_board.specs.declared.left_glass.LeftGlass.{LeftGlass}
use Rattle.live_board.specs.declared.still_glass.StillGlass.{StillGlass}

abbrev pub still_records : StillGlass → List Record
still_records g = g.records

abbrev pub still_rows : StillGlass → ℕ
still_rows g = g.rows

-- it knows the records that it knew
abbrev pub SameRecords : StillGlass → StillGlass → Type 0
SameRecords old now = still_records now ≡ still_records old

abbrev pub left_records : LeftGlass → List Record
left_records g = front_records g.front

abbrev pub left_rows : LeftGlass → ℕ
left_rows g = g.rows

abbrev pub left_refusals : LeftGlass → ℕ
left_refusals g = g.refused

-- which board it shows
abbrev pub left_book : LeftGlass → Book
left_book g = front_book g.front

-- it shows the board that it showed
abbrev pub SameBoard : LeftGlass → LeftGlass → Type 0
SameBoard old now = left_book now ≡ left_book old

-- its reader took once what was published then, and that is what it knows
abbrev pub TookPublished : LeftGlass → LeftGlass → Type 0
TookPublished old now = (taken : Snapshot) × (view now.reader.place ≡ taken ∷ view old.reader.place) × (left_records now ≡ front_records taken.front)

-- it shows this board, of so many actors, knows nothing of it, and has refused no look
pub record IsNewGlass (b : Book) (rows : ℕ) (g : LeftGlass) : Type 0 where
  pub book : left_book g ≡ b
  pub row_count : left_rows g ≡ rows
  pub empty : left_records g ≡ []
  pub refusals : left_refusals g ≡ 0
