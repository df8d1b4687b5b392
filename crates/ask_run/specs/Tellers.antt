-- An answerer that is known to be of one board.
use Rattle.std.specs.Prelude.{◌≡◌, ℕ}
use Rattle.fair_semantics.specs.Step.{Setting}
use Rattle.actor_cells.specs.History.{History}
use Rattle.ask_board.specs.Board.{cells_of}
use Rattle.ask_board.specs.Rows.{Rows}
use Rattle.answerer.specs.declared.reading.Answerer.{Answerer}
use Rattle.answerer.specs.Answered.{AreKnown, IsOfBoard}
use Rattle.answerer.specs.Beside.{FitsHistory}
use Rattle.ask_run.specs.declared.one_board.Teller.{Teller}

-- it is of the board with these cells
abbrev pub IsOn : Rows ℕ → Answerer → Type 0
IsOn cells answerer = cells_of answerer.answers.board.now ≡ cells

-- its answerer is of the board and fits the entries that the history makes
pub record FitsOn {K : Type 0} (cells : Rows ℕ) (teller : Teller K) (actor : ℕ) (setting : Setting) (history : History) : Type 0 where
  pub on : IsOn cells teller.answerer
  pub fits : FitsHistory teller.answerer actor setting history

-- what joining asks of it: it is of the board, and knows a value of each ask on its list
pub record IsJoinable {K : Type 0} (cells : Rows ℕ) (teller : Teller K) : Type 0 where
  pub on : IsOn cells teller.answerer
  pub of_board : IsOfBoard teller.answerer.answers
  pub known : AreKnown teller.answerer.answers
