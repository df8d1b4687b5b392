-- What a look shows.
use Rattle.std.specs.Prelude.{◌≡◌, ℕ, List}
use mathlib.Core.List.{IsPrefix}
use Rattle.live_board.specs.declared.totals.Totals.{Totals}
use Rattle.live_board.specs.declared.record.Record.{Record}
use Rattle.live_board.specs.Folding.{board_of}

-- the board of the records that are known now, which begin with those that were known
pub record Shows (rows : ℕ) (old now : List Record) (board : List Totals) : Type 0 where
  pub goes_on : IsPrefix old now
  pub folded : board ≡ board_of rows now

-- the board and what is known stay
pub record ShowsNothing (old now : List Record) (before after : List Totals) : Type 0 where
  pub known : now ≡ old
  pub board : after ≡ before
