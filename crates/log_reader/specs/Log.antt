-- What reading a log answers.
use Rattle.std.specs.Prelude.{◌≡◌, ℕ, List, Result, Ok, Err}
use Rattle.script_types.specs.declared.plan.Plan.{Plan}
use Rattle.fair_semantics.specs.declared.run.Run.{Run}
use Rattle.fair_semantics.specs.Fits.{RunFits}
use Rattle.arrival_log.specs.LogText.{log_text}
use Rattle.script_types.specs.Typed.{IsTyped}
use Rattle.log_reader.specs.declared.fault.LogFault.{LogFault}
use Rattle.log_reader.specs.declared.fault.LogFault.TheVariants.{Bad, NoMemory}
use Rattle.log_reader.specs.Places.{IsFaultLine}

-- the bytes are the log text of a run that fits the plan
pub record IsLogOf (plan : Plan) (bytes : List ℕ) (run : Run) : Type 0 where
  pub fits : RunFits plan run
  pub text : bytes ≡ log_text plan run

abbrev pub IsNoLog : Plan → List ℕ → Type 0
IsNoLog plan bytes = (run : Run) → IsLogOf plan bytes run → ⊥

-- the run whose log text the bytes are; or the line at fault, where there is none; or there was no memory
abbrev pub Answers : Plan → List ℕ → Result Run LogFault → Type 0
Answers plan bytes (Ok run) = IsLogOf plan bytes run
Answers plan bytes (Err (Bad number)) = IsNoLog plan bytes × IsFaultLine plan bytes number
Answers plan bytes (Err NoMemory) = Unit {0}

-- two runs that fit and have one text are equal
abbrev pub LogsAreOneRun : Type 0
LogsAreOneRun = (plan : Plan) (bytes : List ℕ) (one other : Run) → IsTyped plan → IsLogOf plan bytes one → IsLogOf plan bytes other → one ≡ other

-- bytes have one line at fault
abbrev pub FaultsAreOneLine : Type 0
FaultsAreOneLine = (plan : Plan) (bytes : List ℕ) (one other : ℕ) → IsTyped plan → IsFaultLine plan bytes one → IsFaultLine plan bytes other → one ≡ other
