-- What is written for a verdict, and which status it has.
use Rattle.std.specs.Prelude.{◌≡◌, ℕ, List, [], ◌∷◌, ◌++◌, Bool, true, false, codes, if◌then◌else◌}
use Rattle.std.specs.List.{list_any}
use Rattle.std.specs.Fmt.{decimal}
use Rattle.script_types.specs.declared.plan.Plan.{Plan}
use Rattle.fair_semantics.specs.declared.run.ActorRun.{ActorRun}
use Rattle.fair_semantics.specs.declared.run.Limits.{Limits}
use Rattle.fair_semantics.specs.declared.run.Run.{Run}
use Rattle.fair_semantics.specs.declared.run.Ending.{Ending}
use Rattle.fair_semantics.specs.declared.run.Ending.TheVariants as ending
use Rattle.fair_semantics.specs.Linked.{IsLinked}
use Rattle.run_order_law.specs.Order.{IsScheduled}
use Rattle.arrival_log.specs.LogText.{log_text}
use Rattle.feed_answers.specs.AnswersText.{answers_text}
use Rattle.watch_run.specs.BoardText.{board_text}
use Rattle.script_grammar.specs.declared.fault.ScriptCause.{ScriptCause}
use Rattle.script_grammar.specs.declared.fault.ScriptCause.TheVariants as cause
use Rattle.sensor_feed.specs.declared.fault.FeedCause.{FeedCause}
use Rattle.sensor_feed.specs.declared.fault.FeedCause.TheVariants as row_cause
use Rattle.command_words.specs.Command.{usual_options}
use Rattle.script_files.specs.declared.stop.LogCause.{LogCause}
use Rattle.script_files.specs.declared.stop.LogCause.TheVariants as log_cause
use Rattle.building_load.specs.Building.{load_plan}
use Rattle.building_load.specs.Rows.{load_feeds}
use Rattle.building_load.specs.Summary.{summary_text}
use Rattle.join_command.specs.declared.status.Status.{Status}
use Rattle.join_command.specs.declared.status.Status.TheVariants as status
use Rattle.script_files.specs.Verdict.{Feeds, Verdict, Usage, TooLong, ScriptRefused, FeedRefused, Checks, Lints, Runs, Asks, Watches, Loads, Accepts, LogRefused}
use Rattle.join_command.specs.Verdict.{limits_of}

abbrev pub line : List ℕ → List ℕ
line text = text ++ 10 ∷ []

-- ---- refusals

-- how a refusal names a cause
abbrev pub cause_name : ScriptCause → List ℕ
cause_name cause.NotText = codes "NotText"
cause_name cause.BadToken = codes "BadToken"
cause_name cause.BadSyntax = codes "BadSyntax"
cause_name cause.TooMany = codes "TooMany"
cause_name cause.TwiceDeclared = codes "TwiceDeclared"
cause_name cause.UnknownMessage = codes "UnknownMessage"
cause_name cause.UnknownActor = codes "UnknownActor"
cause_name cause.UnknownName = codes "UnknownName"
cause_name cause.WrongCount = codes "WrongCount"
cause_name cause.WrongType = codes "WrongType"
cause_name cause.StopNotLast = codes "StopNotLast"
cause_name cause.BadWindow = codes "BadWindow"
cause_name cause.BadReply = codes "BadReply"

abbrev pub row_cause_name : FeedCause → List ℕ
row_cause_name row_cause.UnknownActor = codes "UnknownActor"
row_cause_name row_cause.UnknownMessage = codes "UnknownMessage"
row_cause_name row_cause.WrongCount = codes "WrongCount"
row_cause_name row_cause.BadInt = codes "BadInt"
row_cause_name row_cause.NotText = codes "NotText"
row_cause_name row_cause.TooLong = codes "TooLong"

-- `refused file K too long`
abbrev pub too_long_line : ℕ → List ℕ
too_long_line file = line (codes "refused file " ++ decimal file ++ codes " too long")

-- `refused script PLACE CAUSE`
abbrev pub script_line : ℕ → ScriptCause → List ℕ
script_line place why = line (codes "refused script " ++ decimal place ++ codes " " ++ cause_name why)

-- `refused feed K row R CAUSE`
abbrev pub feed_line : ℕ → ℕ → FeedCause → List ℕ
feed_line feed row why = line (codes "refused feed " ++ decimal feed ++ codes " row " ++ decimal row ++ codes " " ++ row_cause_name why)

abbrev pub log_cause_name : LogCause → List ℕ
log_cause_name log_cause.Bad = codes "LogFault"
log_cause_name log_cause.Differs = codes "Differs"

-- `refused log line N CAUSE`
abbrev pub log_line : ℕ → LogCause → List ℕ
log_line number why = line (codes "refused log line " ++ decimal number ++ codes " " ++ log_cause_name why)

-- ---- runs

abbrev pub met_limit : Ending → Bool
met_limit ending.Running = false
met_limit ending.Stopped = false
met_limit ending.Jammed = true
met_limit ending.Spent = true

-- an actor of the run was jammed or spent
abbrev pub meets_limits : Run → Bool
meets_limits run = list_any (λ (actor : ActorRun). met_limit actor.ending) run.actors

abbrev pub run_status : Run → Status
run_status run = if meets_limits run then status.Limits else status.Done

-- the output is the log, of version 2, of a run that is linked to the feeds and that is that of one schedule of single
-- steps
pub record IsLog (plan : Plan) (limits : Limits) (feeds : Feeds) (answer : Status) (output : List ℕ) : Type 0 where
  pub run : Run
  pub version : run.version ≡ 2
  pub linked : IsLinked plan limits feeds run
  pub scheduled : IsScheduled plan limits feeds run
  pub text : output ≡ log_text plan run
  pub told : answer ≡ run_status run

-- the output is such a log, and then the answers that its run gives to the rows of the feeds
pub record IsLogWithAnswers (plan : Plan) (limits : Limits) (feeds : Feeds) (answer : Status) (output : List ℕ) : Type 0 where
  pub run : Run
  pub version : run.version ≡ 2
  pub linked : IsLinked plan limits feeds run
  pub scheduled : IsScheduled plan limits feeds run
  pub text : output ≡ log_text plan run ++ answers_text run feeds
  pub told : answer ≡ run_status run

-- the output is such a log, and then a line for each actor with the totals of its run
pub record IsLogWithTotals (plan : Plan) (limits : Limits) (feeds : Feeds) (answer : Status) (output : List ℕ) : Type 0 where
  pub run : Run
  pub version : run.version ≡ 2
  pub linked : IsLinked plan limits feeds run
  pub scheduled : IsScheduled plan limits feeds run
  pub text : output ≡ log_text plan run ++ board_text plan run
  pub told : answer ≡ run_status run

-- the limits of `run` where it is given none
abbrev pub load_limits : Limits
load_limits = limits_of usual_options

-- the output is the summary of a run of the building that is linked to its feeds of so many rows, and that is that of
-- one schedule
pub record IsSummary (rows : ℕ) (answer : Status) (output : List ℕ) : Type 0 where
  pub run : Run
  pub version : run.version ≡ 2
  pub linked : IsLinked load_plan load_limits (load_feeds rows) run
  pub scheduled : IsScheduled load_plan load_limits (load_feeds rows) run
  pub text : output ≡ summary_text rows load_plan run
  pub told : answer ≡ run_status run

-- ---- logs

-- `accepted N`
abbrev pub accepted_line : ℕ → List ℕ
accepted_line arrivals = line (codes "accepted " ++ decimal arrivals)

-- ---- all verdicts

abbrev pub IsOutput : Verdict → Status → List ℕ → Type 0
IsOutput Usage answer output = (answer ≡ status.Usage) × (output ≡ line (codes "refused usage"))
IsOutput (TooLong file) answer output = (answer ≡ status.TooLong) × (output ≡ too_long_line file)
IsOutput (ScriptRefused place why) answer output = (answer ≡ status.ScriptRefused) × (output ≡ script_line place why)
IsOutput (FeedRefused feed row why) answer output = (answer ≡ status.FeedRefused) × (output ≡ feed_line feed row why)
IsOutput (Checks text) answer output = (answer ≡ status.Done) × (output ≡ text)
IsOutput (Lints text) answer output = (answer ≡ status.Done) × (output ≡ text)
IsOutput (Runs plan limits feeds) answer output = IsLog plan limits feeds answer output
IsOutput (Asks plan limits feeds) answer output = IsLogWithAnswers plan limits feeds answer output
IsOutput (Watches plan limits feeds) answer output = IsLogWithTotals plan limits feeds answer output
IsOutput (Loads rows) answer output = IsSummary rows answer output
IsOutput (Accepts arrivals) answer output = (answer ≡ status.Done) × (output ≡ accepted_line arrivals)
IsOutput (LogRefused number why) answer output = (answer ≡ status.LogRefused) × (output ≡ log_line number why)

-- the status of a verdict, which for a run is that of one of the runs that it may come to
abbrev pub HasStatus : Verdict → Status → Type 0
HasStatus verdict answer = (output : List ℕ) × IsOutput verdict answer output

-- a status that something has that was prepared for a command
abbrev pub IsSettled : Status → Type 0
IsSettled status.Done = Unit {0}
IsSettled status.Limits = Unit {0}
IsSettled status.Usage = ⊥
IsSettled status.ScriptRefused = Unit {0}
IsSettled status.FeedRefused = Unit {0}
IsSettled status.LogRefused = Unit {0}
IsSettled status.ReadFault = ⊥
IsSettled status.WriteFault = ⊥
IsSettled status.NoMemory = ⊥
IsSettled status.TooLong = Unit {0}
