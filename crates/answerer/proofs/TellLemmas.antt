-- A board has each ask that is known.
use Rattle.std.proofs.Common.{IsSome, refl, sym}
use Rattle.once_cell.specs.Once.{cell_name}
use Rattle.ask_board.specs.declared.view.Ask.{Ask}
use Rattle.ask_board.specs.declared.view.AskView.{AskView}
use Rattle.ask_board.specs.declared.board.AskBoard.{AskBoard}
use Rattle.ask_board.specs.Board.{HasAsk, IsViewOf}
use Rattle.ask_board.specs.Rows.{item_of}
use Rattle.ask_board.specs.View.{known_of, noted_cell}
use Rattle.ask_board.proofs.RowsLemmas.{item_some, item_twin}
use Rattle.ask_board.proofs.ViewLemmas.{has_note}

-- a board has each ask of which a view of it knows a value
pub has_known : (board : AskBoard) (view : AskView) (ask : Ask) → IsViewOf board view → IsSome (known_of view ask) → HasAsk board ask
has_known board view ask of known =
    let (note, e) = item_some (item_of view.notes ask) (has_note view ask known) in
    let (cell, is, _) = item_twin cell_name noted_cell board.cells view.notes ask note (sym of) e in
    rw is refl
