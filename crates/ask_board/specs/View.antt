-- What a view knows of each ask.
use Rattle.std.specs.Prelude.{◌≡◌, ℕ, Option, None}
use Rattle.std.specs.Option.{option_and_then}
use Rattle.join_base.specs.declared.message.Value.{Value}
use Rattle.once_cell.specs.declared.race.note.Note.{Note}
use Rattle.ask_board.specs.declared.view.Ask.{Ask}
use Rattle.ask_board.specs.declared.view.AskView.{AskView}
use Rattle.ask_board.specs.Rows.{Rows, item_of, map_rows}

abbrev pub known_by : Note Value → Option Value
known_by note = note.known

abbrev pub KnowsNone : Note Value → Type 0
KnowsNone note = note.known ≡ None

-- what the view knows of an ask
abbrev pub known_of : AskView → Ask → Option Value
known_of view ask = option_and_then known_by (item_of view.notes ask)

abbrev pub noted_cell : Note Value → ℕ
noted_cell note = note.cell

-- the names of the cells that the view has notes of
abbrev pub noted_cells : AskView → Rows ℕ
noted_cells view = map_rows noted_cell view.notes

abbrev pub AreOfOneBoard : AskView → AskView → Type 0
AreOfOneBoard view other = noted_cells other ≡ noted_cells view
