-- What words and files come to: the first refusal in the order in which the files are fetched, the text of a plan or of
-- its findings, a run, the building's run, or a log that is accepted.
use Rattle.std.specs.Prelude.{◌≡◌, ◌⊎◌, ℕ, List, [], ◌∷◌, Option, None, Some, Result, Ok, Err}
use Rattle.join_base.specs.Outside.{Files}
use Rattle.script_types.specs.declared.plan.Plan.{Plan}
use Rattle.script_types.specs.Typed.{IsTyped}
use Rattle.plan_text.specs.PlanText.{plan_text}
use Rattle.script_lint.specs.LintText.{lint_text}
use Rattle.log_replay.specs.Check as replaying
use Rattle.log_replay.specs.declared.refusal.LogRefusal.{LogRefusal}
use Rattle.log_replay.specs.declared.refusal.LogRefusal.TheVariants as refusal
use Rattle.fair_semantics.specs.declared.run.Limits.{Limits}
use Rattle.command_words.specs.declared.options.RunOptions.{RunOptions}
use Rattle.command_words.specs.Command.{Command, RunWords, Run, Check, Replay, Load, Watch, Lint, Ask}
use Rattle.join_command.specs.Command.{command_of}
use Rattle.script_files.specs.Files.{File, Absent, Long, Holds, file_of, log_of}
use Rattle.script_files.specs.declared.stop.LogCause.TheVariants as log_cause
use Rattle.script_files.specs.Verdict.{Feeds, Verdict, Usage, TooLong, Checks, Lints, Runs, Asks, Watches, Loads, Accepts, LogRefused, ScriptGives, OfScript, FeedsAnswer, Given, Refused, Missing, feeds_answer, fetched, IsBeginning}

abbrev pub Words : Type 0
Words = List (List ℕ)

-- ---- the log

abbrev pub checked_as : Result ℕ LogRefusal → Option Verdict
checked_as (Ok arrivals) = Some (Accepts arrivals)
checked_as (Err (refusal.Bad line)) = Some (LogRefused line log_cause.Bad)
checked_as (Err (refusal.Differs line)) = Some (LogRefused line log_cause.Differs)
checked_as (Err refusal.NoMemory) = None

-- what a check of the bytes answers
abbrev pub OfLogBytes : Plan → List ℕ → Verdict → Type 0
OfLogBytes plan bytes verdict = (result : Result ℕ LogRefusal) × replaying.Checks plan bytes result × (checked_as result ≡ Some verdict)

-- what a log comes to by a plan
abbrev pub OfLog : Plan → File → Verdict → Type 0
OfLog plan Absent verdict = ⊥
OfLog plan Long verdict = verdict ≡ TooLong 2
OfLog plan (Holds bytes) verdict = OfLogBytes plan bytes verdict

-- ---- the commands

abbrev pub limits_of : RunOptions → Limits
limits_of options = record { arrivals = options.arrivals; partials = options.partials }

-- what comes of a run: its log alone, its log and the answers of the rows, or its log and its totals
abbrev pub Outcome : Type 0
Outcome = Plan → Limits → Feeds → Verdict

-- a run of what was loaded
abbrev pub run_of : Outcome → Plan → Limits → FeedsAnswer → Option Verdict
run_of outcome plan limits (Given feeds) = Some (outcome plan limits feeds)
run_of outcome plan limits (Refused verdict) = Some verdict
run_of outcome plan limits Missing = None

abbrev pub OfRun : Outcome → Files → RunWords → Verdict → Type 0
OfRun outcome files run verdict = OfScript (file_of files run.script) (λ plan verdict. run_of outcome plan (limits_of run.options) (feeds_answer files plan 1 run.feeds) ≡ Some verdict) verdict

abbrev pub OfCheck : Files → List ℕ → Verdict → Type 0
OfCheck files script verdict = OfScript (file_of files script) (λ plan verdict. verdict ≡ Checks (plan_text plan)) verdict

-- the plan of a script is well typed
abbrev pub OfReplay : Files → List ℕ → List ℕ → Verdict → Type 0
OfReplay files script log verdict = OfScript (file_of files script) (λ plan verdict. IsTyped plan × OfLog plan (log_of files log) verdict) verdict

abbrev pub OfLint : Files → List ℕ → Verdict → Type 0
OfLint files script verdict = OfScript (file_of files script) (λ plan verdict. verdict ≡ Lints (lint_text plan)) verdict

abbrev pub OfCommand : Files → Command → Verdict → Type 0
OfCommand files (Run run) verdict = OfRun Runs files run verdict
OfCommand files (Check script) verdict = OfCheck files script verdict
OfCommand files (Replay script log) verdict = OfReplay files script log verdict
OfCommand files (Load rows) verdict = verdict ≡ Loads rows
OfCommand files (Watch run monitors) verdict = OfRun Watches files run verdict
OfCommand files (Lint script) verdict = OfLint files script verdict
OfCommand files (Ask run) verdict = OfRun Asks files run verdict

abbrev pub OfWords : Files → Option Command → Verdict → Type 0
OfWords files None verdict = verdict ≡ Usage
OfWords files (Some command) verdict = OfCommand files command verdict

-- the verdict of the words and the files; there is none where a file that is wanted is not held
abbrev pub IsVerdict : Words → Files → Verdict → Type 0
IsVerdict words files verdict = OfWords files (command_of words) verdict

-- words and files have one verdict at the most
abbrev pub OneVerdict : Type 0
OneVerdict = (words : Words) (files : Files) (one other : Verdict) → IsVerdict words files one → IsVerdict words files other → one ≡ other

-- ---- the names that are asked

-- `run`, `ask` and `watch` ask for the script, and once the script gives a plan for the feeds in order, up to the first that gives no
-- posts
pub data MayAskRun (files : Files) (run : RunWords) : List (List ℕ) → Type 0 where
  asks_nothing : MayAskRun files run []
  asks_script : MayAskRun files run (run.script ∷ [])
  asks_feeds : (plan : Plan) (names : List (List ℕ)) → ScriptGives (file_of files run.script) plan → IsBeginning names (fetched files plan run.feeds)
      → MayAskRun files run (run.script ∷ names)

-- `check` and `lint` ask for the script alone
abbrev pub MayAskScript : List ℕ → List (List ℕ) → Type 0
MayAskScript script names = (names ≡ []) ⊎ (names ≡ script ∷ [])

-- `replay` asks for the script, and once the script gives a plan for the log
pub data MayAskReplay (files : Files) (script log : List ℕ) : List (List ℕ) → Type 0 where
  replay_asks_nothing : MayAskReplay files script log []
  replay_asks_script : MayAskReplay files script log (script ∷ [])
  replay_asks_log : (plan : Plan) → ScriptGives (file_of files script) plan → MayAskReplay files script log (script ∷ log ∷ [])

abbrev pub MayAsk : Files → Command → List (List ℕ) → Type 0
MayAsk files (Run run) names = MayAskRun files run names
MayAsk files (Check script) names = MayAskScript script names
MayAsk files (Replay script log) names = MayAskReplay files script log names
MayAsk files (Load rows) names = names ≡ []
MayAsk files (Watch run monitors) names = MayAskRun files run names
MayAsk files (Lint script) names = MayAskScript script names
MayAsk files (Ask run) names = MayAskRun files run names

abbrev pub MayAskBy : Files → Option Command → List (List ℕ) → Type 0
MayAskBy files None names = names ≡ []
MayAskBy files (Some command) names = MayAsk files command names

-- a beginning of the list of the names that the order fetches
abbrev pub AreAsked : Words → Files → List (List ℕ) → Type 0
AreAsked words files names = MayAskBy files (command_of words) names
