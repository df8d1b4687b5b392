-- The asks of the board that the tests use.
use Rattle.std.proofs.Common.{◌≡◌, ℕ, List, [], ◌∷◌, Result, Ok, Err, IfOk, arith}
use Rattle.std.specs.Prelude.{◌↔◌}
use Rattle.join_base.specs.declared.items.NoMemory.{NoMemory}
use Rattle.join_base.specs.declared.message.Message.{Message}
use Rattle.ask_board.specs.declared.view.Ask.{Ask}
use Rattle.ask_board.specs.declared.board.AskBoard.{AskBoard}
use Rattle.ask_board.specs.Board.{HasAsk, IsPost}

abbrev pub HasAsksOf : List (List (ℕ × Message)) → AskBoard → Type 0
HasAsksOf feeds board = (ask : Ask) → HasAsk board ask ↔ IsPost feeds 2 ask

module _ (feeds : List (List (ℕ × Message))) (m n : Message) (two : feeds ≡ (((0, m) ∷ (1, n) ∷ []) ∷ [])) where
  pub has_first : (result : Result AskBoard NoMemory) → IfOk result (HasAsksOf feeds) → IfOk result (λ board. HasAsk board (record { feed = 1; actor = 0; place = 1 }))
  has_first (Ok board) h = (h record { feed = 1; actor = 0; place = 1 }).1 (rw two (omega arith, (omega arith, omega arith)))
  has_first (Err e) h = tt

  pub has_second : (result : Result AskBoard NoMemory) → IfOk result (HasAsksOf feeds) → IfOk result (λ board. HasAsk board (record { feed = 1; actor = 1; place = 1 }))
  has_second (Ok board) h = (h record { feed = 1; actor = 1; place = 1 }).1 (rw two (omega arith, (omega arith, omega arith)))
  has_second (Err e) h = tt
