-- The rule of the book of a history, and what its step tells.
use Rattle.std.specs.Prelude.{ℕ, ◌≡◌, ◌==◌, true, List, [], ◌∷◌, ◌++◌, length, MatchBool}
use Rattle.logbook.specs.Pages.{Cell, Step, View}
use Rattle.live_board.specs.declared.record.Record.{Record}

-- the first word is the length of the history. A book has two words, of which this one leaves the second at 0
abbrev pub IsCounted : List Cell → List Record → Type 0
IsCounted cells log = cells ≡ (length log, true) ∷ (0, true) ∷ []

-- the record was added to all that had been seen, or the history was longer
abbrev pub Adds : Step Record → View Record ℕ → ℕ → View Record ℕ → Type 0
Adds s v found w = MatchBool (found == s.old) (w.0 ≡ v.0 ++ s.ask ∷ []) (length w.0 ≡ found)
