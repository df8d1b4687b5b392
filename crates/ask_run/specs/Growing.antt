-- What an answerer of one board fits it fits as arrivals go on.
use Rattle.std.specs.Prelude.{ℕ}
use mathlib.Core.List.{IsPrefix}
use Rattle.fair_semantics.specs.Step.{Setting}
use Rattle.actor_cells.specs.History.{History}
use Rattle.ask_board.specs.Rows.{Rows}
use Rattle.answerer.specs.Growing.{histories_grow}
use Rattle.ask_run.specs.declared.one_board.Teller.{Teller}
use Rattle.ask_run.specs.Tellers.{FitsOn}

pub fits_on_grow : {K : Type 0} (cells : Rows ℕ) (teller : Teller K) (actor : ℕ) (setting : Setting) (before after : History) → IsPrefix before after → FitsOn cells teller actor setting before → FitsOn cells teller actor setting after
fits_on_grow cells teller actor setting before after prefix fit = record { on = fit.on; fits = histories_grow teller.answerer actor setting before after prefix fit.fits }
