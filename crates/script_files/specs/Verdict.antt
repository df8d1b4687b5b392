-- Verdicts, and what a script and its feeds come to.
use Rattle.std.specs.Prelude.{◌≡◌, ◌⊎◌, ℕ, ◌+◌, List, [], ◌∷◌, ◌++◌, Result, Ok, Err}
use Rattle.join_base.specs.declared.message.Message.{Message}
use Rattle.join_base.specs.Outside.{Files}
use Rattle.script_grammar.specs.declared.fault.ScriptCause.{ScriptCause}
use Rattle.script_types.specs.declared.plan.Plan.{Plan}
use Rattle.script_check.specs.Script.{GivesPlan, IsScriptFault}
use Rattle.sensor_feed.specs.Feed.{feed_of}
use Rattle.sensor_feed.specs.declared.fault.FeedCause.{FeedCause}
use Rattle.sensor_feed.specs.declared.fault.FeedFault.{FeedFault}
use Rattle.sensor_feed.specs.declared.fault.FeedFault.TheVariants as fault
use Rattle.fair_semantics.specs.declared.run.Limits.{Limits}
use Rattle.script_files.specs.Files.{File, Absent, Long, Holds, file_of}
use Rattle.script_files.specs.declared.stop.LogCause.{LogCause}

-- the posts of each feed
abbrev pub Feeds : Type 0
Feeds = List (List (ℕ × Message))

-- The script is the first file, feed K is the file K + 1, and a log is the second; feeds, records and lines are counted
-- from 1.
pub data Verdict : Type 0 where
  Usage : Verdict
  TooLong : (file : ℕ) → Verdict
  ScriptRefused : (place : ℕ) (cause : ScriptCause) → Verdict
  FeedRefused : (feed row : ℕ) (cause : FeedCause) → Verdict
  Checks : (text : List ℕ) → Verdict
  Lints : (text : List ℕ) → Verdict
  Runs : (plan : Plan) (limits : Limits) (feeds : Feeds) → Verdict
  Asks : (plan : Plan) (limits : Limits) (feeds : Feeds) → Verdict
  Watches : (plan : Plan) (limits : Limits) (feeds : Feeds) → Verdict
  Loads : (rows : ℕ) → Verdict
  Accepts : (arrivals : ℕ) → Verdict
  LogRefused : (line : ℕ) (cause : LogCause) → Verdict

-- ---- the script

abbrev pub ScriptGives : File → Plan → Type 0
ScriptGives Absent plan = ⊥
ScriptGives Long plan = ⊥
ScriptGives (Holds bytes) plan = GivesPlan bytes plan

-- a text of the script's plan
abbrev pub TextGives : (Plan → List ℕ) → File → List ℕ → Type 0
TextGives view file text = (plan : Plan) × ScriptGives file plan × (text ≡ view plan)

-- it is too long, or has a fault
abbrev pub ScriptStops : File → Verdict → Type 0
ScriptStops Absent verdict = ⊥
ScriptStops Long verdict = verdict ≡ TooLong 1
ScriptStops (Holds bytes) verdict = (place : ℕ) × (cause : ScriptCause) × IsScriptFault bytes place cause × (verdict ≡ ScriptRefused place cause)

-- what a script comes to, where its plan comes to this
abbrev pub OfScript : File → (Plan → Verdict → Type 0) → Verdict → Type 0
OfScript script of_plan verdict = ScriptStops script verdict ⊎ ((plan : Plan) × ScriptGives script plan × of_plan plan verdict)

-- ---- the feeds

-- what some feeds come to: their posts, the first refusal, or nothing where a file that is wanted is not held
pub data FeedsAnswer : Type 0 where
  Given : (feeds : Feeds) → FeedsAnswer
  Refused : (verdict : Verdict) → FeedsAnswer
  Missing : FeedsAnswer

-- what the bytes of the feed of this number give
abbrev pub posts_or : ℕ → Result (List (ℕ × Message)) FeedFault → FeedsAnswer
posts_or feed (Ok posts) = Given (posts ∷ [])
posts_or feed (Err (fault.Bad row cause)) = Refused (FeedRefused feed row cause)
posts_or feed (Err fault.NoMemory) = Missing

abbrev pub feed_answer : Plan → ℕ → File → FeedsAnswer
feed_answer plan feed Absent = Missing
feed_answer plan feed Long = Refused (TooLong (feed + 1))
feed_answer plan feed (Holds bytes) = posts_or feed (feed_of plan bytes)

-- these posts, and those of more feeds
abbrev pub in_front : Feeds → FeedsAnswer → FeedsAnswer
in_front feeds (Given more) = Given (feeds ++ more)
in_front feeds (Refused verdict) = Refused verdict
in_front feeds Missing = Missing

-- the first refusal of two
abbrev pub and_then : FeedsAnswer → FeedsAnswer → FeedsAnswer
and_then (Given feeds) more = in_front feeds more
and_then (Refused verdict) more = Refused verdict
and_then Missing more = Missing

-- what the feeds of these names come to, of which the first has this number
abbrev pub feeds_answer : Files → Plan → ℕ → List (List ℕ) → FeedsAnswer
feeds_answer files plan feed [] = Given []
feeds_answer files plan feed (name ∷ names) = and_then (feed_answer plan feed (file_of files name)) (feeds_answer files plan (feed + 1) names)

abbrev pub behind : FeedsAnswer → List (List ℕ) → List (List ℕ)
behind (Given feeds) names = names
behind (Refused verdict) names = []
behind Missing names = []

-- the names that are fetched for feeds: each of them in order, up to the first that gives no posts
abbrev pub fetched : Files → Plan → List (List ℕ) → List (List ℕ)
fetched files plan [] = []
fetched files plan (name ∷ names) = name ∷ behind (feed_answer plan 1 (file_of files name)) (fetched files plan names)

-- ---- the names that are asked

abbrev pub IsBeginning : {X : Type 0} → List X → List X → Type 0
IsBeginning {X} front all = (rest : List X) × (front ++ rest ≡ all)
