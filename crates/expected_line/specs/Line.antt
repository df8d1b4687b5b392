-- A line of the log of an expected run.
use Rattle.std.specs.Prelude.{◌≡◌, ◌⊎◌, ℕ, List, [], ◌∷◌, ◌++◌, Option, None, Some, option_map, slice_get}
use Rattle.script_types.specs.declared.plan.Plan.{Plan}
use Rattle.fair_semantics.specs.declared.run.Run.{Run}
use Rattle.fair_semantics.specs.Fits.{RunFits}
use Rattle.arrival_log.specs.LogText.{log_text}
use Rattle.log_reader.specs.Log.{IsLogOf, IsNoLog}
use Rattle.log_replay.specs.Expected.{expected_run}
use Rattle.log_replay.specs.Fault.{lines_of, texts_of}

-- a line with the LF that ends it
abbrev pub ended : List ℕ → List ℕ
ended line = line ++ 10 ∷ []

-- the bytes are the log of a run, and this is the line at a place of the log of its expected run, or that log has none there
pub record IsLineThere (plan : Plan) (bytes : List ℕ) (place : ℕ) (found : Option (List ℕ)) : Type 0 where
  pub run : Run
  pub log : IsLogOf plan bytes run
  pub line : option_map ended found ≡ slice_get (texts_of (lines_of plan (expected_run plan run))) place

-- or the bytes are the log of no run, and nothing was found
abbrev pub IsExpectedLine : Plan → List ℕ → ℕ → Option (List ℕ) → Type 0
IsExpectedLine plan bytes place found = IsLineThere plan bytes place found ⊎ ((found ≡ None) × IsNoLog plan bytes)

-- ---- the whole log

-- the bytes are the log of a run, and this is the log of its expected run
pub record IsTextOf (plan : Plan) (bytes text : List ℕ) : Type 0 where
  pub run : Run
  pub log : IsLogOf plan bytes run
  pub fits : RunFits plan (expected_run plan run)
  pub is : text ≡ log_text plan (expected_run plan run)

abbrev pub IsExpectedText : Plan → List ℕ → Option (List ℕ) → Type 0
IsExpectedText plan bytes None = IsNoLog plan bytes
IsExpectedText plan bytes (Some text) = IsTextOf plan bytes text
