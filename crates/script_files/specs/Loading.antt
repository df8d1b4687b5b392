-- What loading a file answers, where it stands to what the inputs hold.
use Rattle.std.specs.Prelude.{◌≡◌, ◌⊎◌, ℕ, List, ◌∷◌, [], ◌++◌, Option, None, Some, Result, Ok, Err}
use Rattle.join_base.specs.declared.outside.FetchFault.{FetchFault}
use Rattle.join_base.specs.declared.outside.FetchFault.TheVariants as fetch
use Rattle.join_base.specs.declared.message.Message.{Message}
use Rattle.join_base.specs.Outside.{Told, Rises, with_asked}
use Rattle.script_grammar.specs.declared.fault.ScriptFault.{ScriptFault}
use Rattle.script_grammar.specs.declared.fault.ScriptFault.TheVariants as script
use Rattle.script_types.specs.declared.plan.Plan.{Plan}
use Rattle.sensor_feed.specs.declared.fault.FeedFault.{FeedFault}
use Rattle.sensor_feed.specs.declared.fault.FeedFault.TheVariants as feed
use Rattle.script_files.specs.declared.stop.Refusal.{Refusal}
use Rattle.script_files.specs.declared.stop.Refusal.TheVariants as refusal
use Rattle.script_files.specs.declared.stop.Stop.{Stop}
use Rattle.script_files.specs.declared.stop.Stop.TheVariants as stop
use Rattle.script_files.specs.Files.{File, file_of}
use Rattle.script_files.specs.Verdict.{Verdict, LogRefused, TooLong, ScriptRefused, FeedRefused, Feeds, FeedsAnswer, Given, Refused, IsBeginning, ScriptGives, ScriptStops, TextGives, feed_answer, feeds_answer, fetched}

-- inputs that tell go on to tell
abbrev pub Tells : Option Told → Option Told → (Told → Told → Type 0) → Type 0
Tells None now P = Unit {0}
Tells (Some before) None P = ⊥
Tells (Some before) (Some now) P = P before now

-- ---- why there is no answer

abbrev pub refused_as : Refusal → Verdict
refused_as (refusal.TooLong file) = TooLong file
refused_as (refusal.Script place cause) = ScriptRefused place cause
refused_as (refusal.Feed number row cause) = FeedRefused number row cause
refused_as (refusal.Log line cause) = LogRefused line cause

-- the verdict of a refusal; no other stop tells anything
abbrev pub stopped_by : Stop → Option Verdict
stopped_by (stop.Refused why) = Some (refused_as why)
stopped_by stop.ReadFault = None
stopped_by stop.NoMemory = None

-- the count of faults rises where a file can't be read, and is as before at every other answer
abbrev pub LoadCause : {X : Type 0} → ℕ → ℕ → Result X Stop → Type 0
LoadCause before now (Ok x) = now ≡ before
LoadCause before now (Err (stop.Refused why)) = now ≡ before
LoadCause before now (Err stop.ReadFault) = Rises before now
LoadCause before now (Err stop.NoMemory) = now ≡ before

abbrev pub fetch_stop : ℕ → FetchFault → Stop
fetch_stop file fetch.Failed = stop.ReadFault
fetch_stop file fetch.TooLong = stop.Refused (refusal.TooLong file)
fetch_stop file fetch.NoMemory = stop.NoMemory

abbrev pub script_stop : ScriptFault → Stop
script_stop (script.Bad place cause) = stop.Refused (refusal.Script place cause)
script_stop script.NoMemory = stop.NoMemory

abbrev pub feed_stop : ℕ → FeedFault → Stop
feed_stop number (feed.Bad row cause) = stop.Refused (refusal.Feed number row cause)
feed_stop number feed.NoMemory = stop.NoMemory

-- ---- one file

-- the name was asked, but perhaps not where something stops
abbrev pub Asks : {X E : Type 0} → Told → Told → List ℕ → Result X E → Type 0
Asks {X} {E} before now name (Ok x) = now ≡ with_asked before name
Asks {X} {E} before now name (Err why) = (now ≡ with_asked before name) ⊎ (now ≡ before)

abbrev pub StopsScript : File → Option Verdict → Type 0
StopsScript file None = Unit {0}
StopsScript file (Some verdict) = ScriptStops file verdict

-- what the script gives, as its plan or a text of it, or why it gives nothing
abbrev pub ReadsScript : {X : Type 0} → (File → X → Type 0) → File → Result X Stop → Type 0
ReadsScript Gives file (Ok x) = Gives file x
ReadsScript Gives file (Err why) = StopsScript file (stopped_by why)

pub record LoadsOf {X : Type 0} (Gives : File → X → Type 0) (before now : Told) (name : List ℕ) (result : Result X Stop) : Type 0 where
  pub asks : Asks before now name result
  pub answer : ReadsScript Gives (file_of before.files name) result

abbrev pub LoadsScript : Told → Told → List ℕ → Result Plan Stop → Type 0
LoadsScript before now name result = LoadsOf ScriptGives before now name result

-- a text of the script's plan
abbrev pub LoadsText : (Plan → List ℕ) → Told → Told → List ℕ → Result (List ℕ) Stop → Type 0
LoadsText view before now name result = LoadsOf (TextGives view) before now name result

abbrev pub StopsFeeds : FeedsAnswer → Option Verdict → Type 0
StopsFeeds given None = Unit {0}
StopsFeeds given (Some verdict) = given ≡ Refused verdict

abbrev pub ReadsFeed : FeedsAnswer → Result (List (ℕ × Message)) Stop → Type 0
ReadsFeed given (Ok posts) = given ≡ Given (posts ∷ [])
ReadsFeed given (Err why) = StopsFeeds given (stopped_by why)

pub record LoadsFeed (before now : Told) (plan : Plan) (number : ℕ) (name : List ℕ) (result : Result (List (ℕ × Message)) Stop) : Type 0 where
  pub asks : Asks before now name result
  pub answer : ReadsFeed (feed_answer plan number (file_of before.files name)) result

-- ---- all feeds

abbrev pub ReadsFeeds : FeedsAnswer → Result Feeds Stop → Type 0
ReadsFeeds given (Ok feeds) = given ≡ Given feeds
ReadsFeeds given (Err why) = StopsFeeds given (stopped_by why)

-- names in their order were asked, up to the first feed that gives no posts
pub record LoadsFeeds (before now : Told) (plan : Plan) (names : List (List ℕ)) (result : Result Feeds Stop) : Type 0 where
  pub asked : List (List ℕ)
  pub told_is : now ≡ record { files = before.files; asked = before.asked ++ asked }
  pub in_order : IsBeginning asked (fetched before.files plan names)
  pub answer : ReadsFeeds (feeds_answer before.files plan 1 names) result
