-- What a list of records makes of a board.
use Rattle.std.specs.Prelude.{ℕ, ◌+◌, List, [], ◌∷◌, fold, replicate, slice_set}
use Rattle.live_board.specs.declared.totals.Totals.{Totals}
use Rattle.live_board.specs.declared.record.Record.{Record}

abbrev pub no_totals : Totals
no_totals = record { arrivals = 0; firings = 0; posts = 0 }

-- the record replaces its actor's totals, and where there is no such actor it replaces nothing
abbrev pub with_record : List Totals → Record → List Totals
with_record board r = slice_set board r.actor r.totals

-- the board of so many actors: their totals are zero at first, and each record in turn replaces its actor's
abbrev pub board_of : ℕ → List Record → List Totals
board_of actors records = fold with_record (replicate actors no_totals) records

-- a record of each of these totals, in order, the first of them of this actor
abbrev pub records_from : ℕ → List Totals → List Record
records_from actor [] = []
records_from actor (totals ∷ rows) = record { actor = actor; totals = totals } ∷ records_from (actor + 1) rows
