-- An answerer of one board, as arrivals go on, and what joining asks of it.
use Rattle.std.proofs.Common.{◌≡◌, ◌∙◌, ℕ, [], sym}
use Rattle.fair_semantics.specs.Step.{Setting}
use Rattle.actor_cells.specs.History.{History}
use Rattle.ask_board.specs.Board.{cells_of}
use Rattle.ask_board.specs.Rows.{Rows}
use Rattle.actor_pool.specs.Beside.{FitsOpening, KeepsOthers}
use Rattle.answerer.specs.Beside.{FitsHistory}
use Rattle.answerer.specs.Fit.{FitsNothing}
use Rattle.answerer.proofs.BesideLemmas.{fits_now, nothing_fits}
use Rattle.ask_run.specs.declared.one_board.Teller.{Teller}
use Rattle.ask_run.specs.Tellers.{FitsOn, IsJoinable, IsOn}

pub fits_joinable : {K : Type 0} (cells : Rows ℕ) (teller : Teller K) (actor : ℕ) (setting : Setting) (history : History) → FitsOn cells teller actor setting history → IsJoinable cells teller
fits_joinable cells teller actor setting history fit =
    let now = fits_now teller.answerer actor setting history fit.fits in
    record { on = fit.on; of_board = now.fits.of_board; known = now.known }

pub opening_fits : {K : Type 0} (cells : Rows ℕ) (teller : Teller K) → IsOn cells teller.answerer → FitsNothing teller.answerer → FitsOpening (FitsOn cells) teller
opening_fits cells teller on nothing = λ actor setting. record { on = on; fits = nothing_fits teller.answerer actor setting [] nothing }

-- what is kept of other actors stays, and so does the board
pub others_on : {K : Type 0} (cells : Rows ℕ) (old now : Teller K) (actor : ℕ) → cells_of now.answerer.answers.board.now ≡ cells_of old.answerer.answers.board.now → KeepsOthers FitsHistory old.answerer now.answerer actor → KeepsOthers (FitsOn cells) old now actor
others_on cells old now actor same others = λ other differ setting history.
    (λ fit. record { on = same ∙ fit.on; fits = (others other differ setting history).0 fit.fits }, λ fit. record { on = sym same ∙ fit.on; fits = (others other differ setting history).1 fit.fits })
