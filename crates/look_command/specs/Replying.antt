-- What the files of a request come to, step by step.
use Rattle.std.specs.Prelude.{◌≡◌, ℕ, List, ◌++◌, Option, None, Some, Result, Ok, Err, ◌+◌, ◌-◌, ◌^◌, min}
use Rattle.join_base.specs.Outside.{Files, Told}
use Rattle.script_types.specs.declared.plan.Plan.{Plan}
use Rattle.script_types.specs.Typed.{IsTyped}
use Rattle.fair_semantics.specs.declared.run.Run.{Run}
use Rattle.fair_semantics.specs.Fits.{RunFits}
use Rattle.log_reader.specs.Log.{IsLogOf}
use Rattle.log_replay.specs.Check.{IsAcceptedLog}
use Rattle.log_replay.specs.Fault.{IsAccepted}
use Rattle.script_files.specs.Files.{File, Absent, Long, Holds, log_of}
use Rattle.script_files.specs.Loading.{Asks, stopped_by}
use Rattle.script_files.specs.Verdict as usual
use Rattle.script_files.specs.Verdict.{FeedsAnswer, IsBeginning, feeds_answer, fetched}
use Rattle.script_files.specs.declared.stop.Refusal.TheVariants as refusal
use Rattle.script_files.specs.declared.stop.Stop.{Stop}
use Rattle.script_files.specs.declared.stop.Stop.TheVariants as stop
use Rattle.look_command.specs.declared.reply.Reply.{Reply}
use Rattle.look_command.specs.declared.reply.Reply.TheVariants as reply
use Rattle.look_command.specs.Request.{Request}
use Rattle.look_command.specs.Verdict.{Verdict, Usual, OtherFeeds, OtherRow, UnknownActor, Reacts, Explains, IsReadRun, LogStops, MayAsk, OfFeeds, OfRequest, RunStops}

abbrev pub verdict_of : Reply → Verdict
verdict_of (reply.Accepted arrivals) = Usual (usual.Accepts arrivals)
verdict_of (reply.OtherFeeds count) = OtherFeeds count
verdict_of (reply.OtherRow difference shown) = OtherRow difference shown
verdict_of reply.UnknownActor = UnknownActor
verdict_of (reply.Reacts plan run only) = Reacts plan run only
verdict_of (reply.Explains plan run actor wanted) = Explains plan run actor wanted

-- a plan that is looked at is well typed, and its run fits it
abbrev pub IsShowable : Reply → Type 0
IsShowable (reply.Accepted arrivals) = Unit {0}
IsShowable (reply.OtherFeeds count) = Unit {0}
IsShowable (reply.OtherRow difference shown) = Unit {0}
IsShowable reply.UnknownActor = Unit {0}
IsShowable (reply.Reacts plan run only) = IsTyped plan × RunFits plan run
IsShowable (reply.Explains plan run actor wanted) = IsTyped plan × RunFits plan run

-- the verdict of a refusal; no other stop tells anything
abbrev pub usually : Option usual.Verdict → Option Verdict
usually None = None
usually (Some verdict) = Some (Usual verdict)

abbrev pub replied_with : Result Reply Stop → Option Verdict
replied_with (Ok answer) = Some (verdict_of answer)
replied_with (Err why) = usually (stopped_by why)

-- there is no memory for a reply, or it is this verdict
abbrev pub IsReplied : Option Verdict → Option Verdict → Type 0
IsReplied given None = Unit {0}
IsReplied given (Some verdict) = given ≡ Some verdict

-- a stop of feeds, where a log stands in front of them
abbrev pub stop_behind : Stop → Stop
stop_behind (stop.Refused (refusal.TooLong file)) = stop.Refused (refusal.TooLong (min (file + 1) (2 ^ 32 - 1)))
stop_behind why = why

-- ---- a log

abbrev pub StopsBytes : File → Option usual.Verdict → Type 0
StopsBytes file None = Unit {0}
StopsBytes file (Some verdict) = (file ≡ Long) × (verdict ≡ usual.TooLong 2)

abbrev pub ReadsBytes : File → Result (List ℕ) Stop → Type 0
ReadsBytes file (Ok bytes) = file ≡ Holds bytes
ReadsBytes file (Err why) = StopsBytes file (stopped_by why)

-- what fetching a log answers
pub record LoadsBytes (before now : Told) (name : List ℕ) (result : Result (List ℕ) Stop) : Type 0 where
  pub asks : Asks before now name result
  pub answer : ReadsBytes (log_of before.files name) result

-- ---- the feeds

-- nothing, or what the bytes of a log come to by what the feeds come to
abbrev pub ReadsFeeds : Plan → List ℕ → FeedsAnswer → Option Verdict → Type 0
ReadsFeeds plan bytes given None = Unit {0}
ReadsFeeds plan bytes given (Some verdict) = OfFeeds plan bytes given verdict

-- names in their order were asked, up to the first feed that gives no posts
pub record AuditsFeeds (plan : Plan) (bytes : List ℕ) (names : List (List ℕ)) (before now : Told) (result : Result Reply Stop) : Type 0 where
  pub asked : List (List ℕ)
  pub told_is : now ≡ record { files = before.files; asked = before.asked ++ asked }
  pub in_order : IsBeginning asked (fetched before.files plan names)
  pub answer : ReadsFeeds plan bytes (feeds_answer before.files plan 1 names) (replied_with result)

-- ---- a run

-- the bytes are the log of a run no line of whose log is in fault
abbrev pub IsAcceptedBytes : Plan → List ℕ → Type 0
IsAcceptedBytes plan bytes = (count : ℕ) × IsAcceptedLog plan bytes count

-- what reading the bytes of a log answers
abbrev pub ReadsRun : Plan → List ℕ → Result Run Stop → Type 0
ReadsRun plan bytes (Ok run) = IsLogOf plan bytes run × IsAccepted plan run
ReadsRun plan bytes (Err (stop.Refused (refusal.TooLong file))) = ⊥
ReadsRun plan bytes (Err (stop.Refused (refusal.Script place why))) = ⊥
ReadsRun plan bytes (Err (stop.Refused (refusal.Feed number row why))) = ⊥
ReadsRun plan bytes (Err (stop.Refused (refusal.Log line cause))) = LogStops plan bytes line cause
ReadsRun plan bytes (Err stop.ReadFault) = ⊥
ReadsRun plan bytes (Err stop.NoMemory) = Unit {0}

abbrev pub StopsRun : Plan → File → Option usual.Verdict → Type 0
StopsRun plan file None = Unit {0}
StopsRun plan file (Some verdict) = RunStops plan file verdict

abbrev pub ReadsFile : Plan → File → Result Run Stop → Type 0
ReadsFile plan file (Ok run) = IsReadRun plan file run
ReadsFile plan file (Err why) = StopsRun plan file (stopped_by why)

-- what loading a log answers
pub record LoadsRun (plan : Plan) (before now : Told) (name : List ℕ) (result : Result Run Stop) : Type 0 where
  pub asks : Asks before now name result
  pub answer : ReadsFile plan (log_of before.files name) result

-- ---- the request

-- the verdict of a request, where there is one
abbrev pub OfReply : Files → Request → Option Verdict → Type 0
OfReply files request None = Unit {0}
OfReply files request (Some verdict) = OfRequest files request verdict

-- the inputs hold what they held, names of the request were asked in their order, and the reply is the verdict
pub record Replies (request : Request) (before now : Told) (result : Result Reply Stop) : Type 0 where
  pub asked : List (List ℕ)
  pub told_is : now ≡ record { files = before.files; asked = before.asked ++ asked }
  pub may_ask : MayAsk before.files request asked
  pub verdict : OfReply before.files request (replied_with result)
