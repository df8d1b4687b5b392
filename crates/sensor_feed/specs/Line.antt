-- The lines of a feed without double quotes: what csv reads as its records.
use Rattle.std.specs.Prelude.{◌≡◌, ◌==◌, ◌||◌, ℕ, List, [], ◌∷◌, Bool, true, false, not, Option, None, Some}
use Rattle.std.specs.List.{list_all}
use Rattle.std.proofs.Common.{Bor}
use Rattle.csv.specs.Machine.{ends_at_end, next_record}
use Rattle.csv.specs.Reading.{default_config, records}
use Rattle.csv.specs.declared.parser.State.{State}
use Rattle.csv.specs.declared.parser.State.TheVariants as st
use Rattle.sensor_feed.specs.Feed.{Record, records_of}

abbrev pub is_no_quote : ℕ → Bool
is_no_quote c = not (c == 34)

-- CR or LF
abbrev pub ends_row : ℕ → Bool
ends_row c = (c == 13) || (c == 10)

-- no byte is a double quote, and there is no byte order mark in front
pub record IsPlain (bytes : List ℕ) : Type 0 where
  pub plain : list_all is_no_quote bytes ≡ true
  pub whole : records_of bytes ≡ records default_config bytes

-- inside of a field, these are the fields up to the line's end, and what is behind it
pub record CutsLine (text : List ℕ) (fields : Record) (rest : List ℕ) : Type 0 where
  pub state : State
  pub next : next_record default_config st.InField [] [] text ≡ Some (fields, state, rest)
  pub between : ends_at_end state ≡ false
  pub plain : list_all is_no_quote rest ≡ true

-- the first of the records was taken, or there was none
abbrev pub TakesLine : List ℕ → Record → Option (Bor (List ℕ)) → Type 0
TakesLine text fields None = records default_config text ≡ []
TakesLine text fields (Some rest) =
    (records default_config text ≡ fields ∷ records default_config rest.now) × (list_all is_no_quote rest.now ≡ true)
