-- What a check of a log answers.
use Rattle.std.specs.Prelude.{◌≡◌, ℕ, ◌+◌, List, length, Option, None, Some, Result, Ok, Err}
use Rattle.script_types.specs.declared.plan.Plan.{Plan}
use Rattle.fair_semantics.specs.declared.run.Run.{Run}
use Rattle.fair_semantics.specs.Linked.{IsLinked}
use Rattle.fair_semantics.specs.StampLaw.{arrivals_of}
use Rattle.run_order_law.specs.Order.{IsScheduled}
use Rattle.log_reader.specs.Log.{IsLogOf, IsNoLog}
use Rattle.log_reader.specs.Places.{IsFaultLine}
use Rattle.log_replay.specs.declared.refusal.LogRefusal.{LogRefusal}
use Rattle.log_replay.specs.declared.refusal.LogRefusal.TheVariants.{Bad, Differs, NoMemory}
use Rattle.log_replay.specs.Fault.{IsAccepted, IsFirstInFault}
use Rattle.log_replay.specs.Feeds.{feeds_shown}

-- the number of the first line in fault, or none where no line is
abbrev pub IsFirstFault : Plan → Run → Option ℕ → Type 0
IsFirstFault plan run None = IsAccepted plan run
IsFirstFault plan run (Some number) = IsFirstInFault plan run number

-- the number of a place
abbrev pub numbered : Option ℕ → Option ℕ
numbered None = None
numbered (Some place) = Some (place + 1)

-- how many arrivals all actors have
abbrev pub arrival_count : Run → ℕ
arrival_count run = length (arrivals_of run.actors)

-- the bytes are the log of a run no line of whose log is in fault, and that has so many arrivals; it is linked to the
-- feeds that it shows, and with stamps it is that of one schedule of single steps
pub record IsAcceptedLog (plan : Plan) (bytes : List ℕ) (count : ℕ) : Type 0 where
  pub run : Run
  pub log : IsLogOf plan bytes run
  pub accepted : IsAccepted plan run
  pub counted : count ≡ arrival_count run
  pub linked : IsLinked plan run.limits (feeds_shown run) run
  pub scheduled : run.version ≡ 2 → IsScheduled plan run.limits (feeds_shown run) run

-- the bytes are the log of a run, of whose lines this is the first in fault
pub record IsDifferingLog (plan : Plan) (bytes : List ℕ) (line : ℕ) : Type 0 where
  pub run : Run
  pub log : IsLogOf plan bytes run
  pub first : IsFirstInFault plan run line

-- accepted with the number of arrivals; no log, with the line at fault; a log that differs from that of its expected
-- run, or whose posts do; or there was no memory
abbrev pub Checks : Plan → List ℕ → Result ℕ LogRefusal → Type 0
Checks plan bytes (Ok count) = IsAcceptedLog plan bytes count
Checks plan bytes (Err (Bad line)) = IsNoLog plan bytes × IsFaultLine plan bytes line
Checks plan bytes (Err (Differs line)) = IsDifferingLog plan bytes line
Checks plan bytes (Err NoMemory) = Unit {0}
