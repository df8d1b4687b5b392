-- What words and files come to: the first refusal in the order in which the files are fetched, a log that is accepted as
-- that of its feeds, or where it is not theirs, the reactions of a log, or why messages wait.
use Rattle.std.specs.Prelude.{◌≡◌, ◌⊎◌, ℕ, ◌+◌, ◌-◌, ◌^◌, min, List, [], ◌∷◌, Option, None, Some, Result, Ok, Err}
use Rattle.std.specs.List.{position}
use Rattle.std.specs.Str.{bytes_eq}
use Rattle.join_base.specs.Outside.{Files}
use Rattle.script_types.specs.declared.plan.ActorPlan.{ActorPlan}
use Rattle.script_types.specs.declared.plan.Plan.{Plan}
use Rattle.script_types.specs.Typed.{IsTyped}
use Rattle.fair_semantics.specs.declared.run.Run.{Run}
use Rattle.log_reader.specs.Log.{IsLogOf}
use Rattle.log_replay.specs.Check as replaying
use Rattle.log_replay.specs.Fault.{IsAccepted}
use Rattle.log_replay.specs.declared.refusal.LogRefusal.TheVariants as log_refusal
use Rattle.log_audit.specs.Audit.{Audits}
use Rattle.log_audit.specs.declared.refusal.AuditRefusal.{AuditRefusal}
use Rattle.log_audit.specs.declared.refusal.AuditRefusal.TheVariants as refusal
use Rattle.log_audit.specs.declared.refusal.Difference.{Difference}
use Rattle.difference_text.specs.Text.{difference_text}
use Rattle.script_files.specs.Files.{File, Absent, Long, Holds, file_of, log_of}
use Rattle.join_command.specs.Verdict as usual
use Rattle.script_files.specs.Verdict as common
use Rattle.script_files.specs.Verdict.{Feeds, FeedsAnswer, Given, Refused, Missing, IsBeginning, ScriptGives, ScriptStops, feeds_answer, fetched}
use Rattle.join_command.specs.Verdict.{Words}
use Rattle.script_files.specs.declared.stop.LogCause.{LogCause}
use Rattle.script_files.specs.declared.stop.LogCause.TheVariants as log_cause
use Rattle.look_command.specs.Request.{Request, Audit, Reactions, Why, request_of}

-- A verdict that `join_command` has too, as a refusal of a file or a log that is accepted; a log of another number of
-- feeds; the first line that is not that of the feeds, with what stands there and what should; a name of no actor; a run
-- whose reactions are shown, of one actor or of all; or one of which it is said why the messages of an actor wait, or why
-- one does. The script is the first file, the log the second, and feed K is the file K + 2.
pub data Verdict : Type 0 where
  Usual : (verdict : common.Verdict) → Verdict
  OtherFeeds : (count : ℕ) → Verdict
  OtherRow : (difference : Difference) (shown : List ℕ) → Verdict
  UnknownActor : Verdict
  Reacts : (plan : Plan) (run : Run) (only : Option ℕ) → Verdict
  Explains : (plan : Plan) (run : Run) (actor : ℕ) (wanted : Option ℕ) → Verdict

-- ---- the script

-- what a script comes to, where its plan comes to this
abbrev pub OfScript : File → (Plan → Verdict → Type 0) → Verdict → Type 0
OfScript script of_plan verdict = ((stop : common.Verdict) × ScriptStops script stop × (verdict ≡ Usual stop)) ⊎ ((plan : Plan) × ScriptGives script plan × of_plan plan verdict)

-- ---- an audit

abbrev pub audited_as : Plan → List ℕ → Feeds → Result ℕ AuditRefusal → Option Verdict
audited_as plan bytes feeds (Ok arrivals) = Some (Usual (common.Accepts arrivals))
audited_as plan bytes feeds (Err (refusal.Log (log_refusal.Bad line))) = Some (Usual (common.LogRefused line log_cause.Bad))
audited_as plan bytes feeds (Err (refusal.Log (log_refusal.Differs line))) = Some (Usual (common.LogRefused line log_cause.Differs))
audited_as plan bytes feeds (Err (refusal.Log log_refusal.NoMemory)) = None
audited_as plan bytes feeds (Err (refusal.Feeds count)) = Some (OtherFeeds count)
audited_as plan bytes feeds (Err (refusal.Row difference)) = Some (OtherRow difference (difference_text plan bytes feeds difference))

-- what an audit of the bytes against these feeds answers
abbrev pub OfAudit : Plan → List ℕ → Feeds → Verdict → Type 0
OfAudit plan bytes feeds verdict = (result : Result ℕ AuditRefusal) × Audits plan bytes feeds result × (audited_as plan bytes feeds result ≡ Some verdict)

-- a refusal of feeds, where a log stands in front of them: a file that is too long is one file later
abbrev pub behind_log : common.Verdict → common.Verdict
behind_log (common.TooLong file) = common.TooLong (min (file + 1) (2 ^ 32 - 1))
behind_log verdict = verdict

-- what the bytes of a log come to by what the feeds come to
abbrev pub OfFeeds : Plan → List ℕ → FeedsAnswer → Verdict → Type 0
OfFeeds plan bytes (Given feeds) verdict = OfAudit plan bytes feeds verdict
OfFeeds plan bytes (Refused stop) verdict = verdict ≡ Usual (behind_log stop)
OfFeeds plan bytes Missing verdict = ⊥

-- what a log comes to
abbrev pub OfLog : Plan → File → FeedsAnswer → Verdict → Type 0
OfLog plan Absent given verdict = ⊥
OfLog plan Long given verdict = verdict ≡ Usual (common.TooLong 2)
OfLog plan (Holds bytes) given verdict = OfFeeds plan bytes given verdict

-- ---- a run

-- a line of the log is in fault, as `replay` has it
abbrev pub LogStops : Plan → List ℕ → ℕ → LogCause → Type 0
LogStops plan bytes line log_cause.Bad = replaying.Checks plan bytes (Err (log_refusal.Bad line))
LogStops plan bytes line log_cause.Differs = replaying.Checks plan bytes (Err (log_refusal.Differs line))

abbrev pub RunStops : Plan → File → common.Verdict → Type 0
RunStops plan Absent stop = ⊥
RunStops plan Long stop = stop ≡ common.TooLong 2
RunStops plan (Holds bytes) stop = (line : ℕ) × (cause : LogCause) × LogStops plan bytes line cause × (stop ≡ common.LogRefused line cause)

-- the file is the log of the run, no line of which is in fault
abbrev pub IsReadRun : Plan → File → Run → Type 0
IsReadRun plan Absent run = ⊥
IsReadRun plan Long run = ⊥
IsReadRun plan (Holds bytes) run = IsLogOf plan bytes run × IsAccepted plan run

-- what a log comes to, where its run comes to this
abbrev pub OfRun : Plan → File → (Run → Verdict → Type 0) → Verdict → Type 0
OfRun plan file of_run verdict = ((stop : common.Verdict) × RunStops plan file stop × (verdict ≡ Usual stop)) ⊎ ((run : Run) × IsReadRun plan file run × of_run run verdict)

-- the number of the actor of a name
abbrev pub actor_named : Plan → List ℕ → Option ℕ
actor_named plan name = position (λ (actor : ActorPlan). bytes_eq actor.name name) plan.actors

abbrev pub reacts_of : Plan → Run → Option ℕ → Verdict
reacts_of plan run None = UnknownActor
reacts_of plan run (Some actor) = Reacts plan run (Some actor)

-- the reactions of all actors, or of that of a name
abbrev pub OfReactions : Option (List ℕ) → Plan → Run → Verdict → Type 0
OfReactions None plan run verdict = verdict ≡ Reacts plan run None
OfReactions (Some name) plan run verdict = verdict ≡ reacts_of plan run (actor_named plan name)

abbrev pub explains_of : Plan → Run → Option ℕ → Option ℕ → Verdict
explains_of plan run None wanted = UnknownActor
explains_of plan run (Some actor) wanted = Explains plan run actor wanted

-- why the messages of the actor of a name wait, or why the one of a number does
abbrev pub OfWhy : List ℕ → Option ℕ → Plan → Run → Verdict → Type 0
OfWhy name wanted plan run verdict = verdict ≡ explains_of plan run (actor_named plan name) wanted

-- ---- the requests

-- the plan of a script is well typed
abbrev pub OfRequest : Files → Request → Verdict → Type 0
OfRequest files (Audit script log feeds) verdict = OfScript (file_of files script) (λ plan verdict. IsTyped plan × OfLog plan (log_of files log) (feeds_answer files plan 1 feeds) verdict) verdict
OfRequest files (Reactions script log actor) verdict = OfScript (file_of files script) (λ plan verdict. IsTyped plan × OfRun plan (log_of files log) (OfReactions actor plan) verdict) verdict
OfRequest files (Why script log actor number) verdict = OfScript (file_of files script) (λ plan verdict. IsTyped plan × OfRun plan (log_of files log) (OfWhy actor number plan) verdict) verdict

abbrev pub OfWords : Files → Option Request → Verdict → Type 0
OfWords files None verdict = verdict ≡ Usual common.Usage
OfWords files (Some request) verdict = OfRequest files request verdict

-- the verdict of the words and the files; there is none where a file that is wanted is not held
abbrev pub IsVerdict : Words → Files → Verdict → Type 0
IsVerdict words files verdict = OfWords files (request_of words) verdict

-- words and files have one verdict at the most
abbrev pub OneVerdict : Type 0
OneVerdict = (words : Words) (files : Files) (one other : Verdict) → IsVerdict words files one → IsVerdict words files other → one ≡ other

-- ---- the names that are asked

-- `audit` asks for the script, once the script gives a plan for the log, and once there is a log for the feeds in order,
-- up to the first that gives no posts
pub data MayAskAudit (files : Files) (script log : List ℕ) (feeds : List (List ℕ)) : List (List ℕ) → Type 0 where
  asks_nothing : MayAskAudit files script log feeds []
  asks_script : MayAskAudit files script log feeds (script ∷ [])
  asks_log : (plan : Plan) → ScriptGives (file_of files script) plan → MayAskAudit files script log feeds (script ∷ log ∷ [])
  asks_feeds : (plan : Plan) (bytes : List ℕ) (names : List (List ℕ)) → ScriptGives (file_of files script) plan → log_of files log ≡ Holds bytes → IsBeginning names (fetched files plan feeds)
      → MayAskAudit files script log feeds (script ∷ log ∷ names)

abbrev pub MayAsk : Files → Request → List (List ℕ) → Type 0
MayAsk files (Audit script log feeds) names = MayAskAudit files script log feeds names
MayAsk files (Reactions script log actor) names = usual.MayAskReplay files script log names
MayAsk files (Why script log actor number) names = usual.MayAskReplay files script log names

abbrev pub MayAskBy : Files → Option Request → List (List ℕ) → Type 0
MayAskBy files None names = names ≡ []
MayAskBy files (Some request) names = MayAsk files request names

-- a beginning of the list of the names that the order fetches
abbrev pub AreAsked : Words → Files → List (List ℕ) → Type 0
AreAsked words files names = MayAskBy files (request_of words) names
