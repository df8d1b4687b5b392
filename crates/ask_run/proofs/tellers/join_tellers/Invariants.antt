use Rattle.std.proofs.Common.{◌≡◌, ℕ, All, length}
use Rattle.fair_semantics.specs.Step.{Setting}
use Rattle.actor_cells.specs.History.{History}
use Rattle.answerer.specs.Answered.{IsOfBoard}
use Rattle.answerer.specs.Beside.{FitsHistory}
use Rattle.ask_run.specs.Tellers.{FitsOn, IsJoinable}
use Rattle.ask_run.proofs.tellers.join_tellers.Given as goal

-- what all fit, the joined one fits, and so do those that are left
abbrev pub invariant-loop-teller : goal.invariant-loop-teller
invariant-loop-teller g l = record {
  board : l.joined.answers.board.now ≡ l.board;
  of_board : IsOfBoard l.joined.answers;
  joinable : All (IsJoinable g.K.OneBoard.cells) l.tellers.items;
  fits : (actor : ℕ) (setting : Setting) (history : History) → All (λ teller. FitsOn g.K.OneBoard.cells teller actor setting history) l.fn.tellers.items → FitsHistory l.joined actor setting history;
  left : (actor : ℕ) (setting : Setting) (history : History) → All (λ teller. FitsOn g.K.OneBoard.cells teller actor setting history) l.fn.tellers.items → All (λ teller. FitsOn g.K.OneBoard.cells teller actor setting history) l.tellers.items;
}

abbrev pub decreases-loop-teller : goal.decreases-loop-teller
decreases-loop-teller g l = length l.tellers.items
