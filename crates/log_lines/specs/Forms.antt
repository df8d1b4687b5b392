-- The lines of a log: within which bounds each stands, and its text.
use Rattle.std.specs.Prelude.{◌≡◌, ◌<◌, ℕ, length, true, List, [], ◌∷◌, ◌++◌, Option, None, codes}
use Rattle.script_types.specs.declared.plan.Plan.{Plan}
use Rattle.fair_semantics.specs.declared.run.Ending.{Ending}
use Rattle.fair_semantics.specs.declared.run.Entry.{Entry}
use Rattle.fair_semantics.specs.declared.run.Firing.{Firing}
use Rattle.fair_semantics.specs.declared.run.ActorRun.{ActorRun}
use Rattle.fair_semantics.specs.declared.run.Run.{Run}
use Rattle.fair_semantics.specs.Fits.{ActorRunFits, EffectFits, EntryFits, FiringFits, IsFrom1To, LateFits, has_reply}
use Rattle.arrival_log.specs.LogText.{arrival_line, effect_line, end_line, fire_line, head_line, late_line, line}
use Rattle.script_types.specs.Names.{name_of_actor}
use Rattle.script_types.specs.Typed.{IsTyped}
use Rattle.log_lines.specs.declared.line.Arrival.{Arrival}
use Rattle.log_lines.specs.declared.line.Head.{Head}
use Rattle.log_lines.specs.declared.line.LogLine.{LogLine}
use Rattle.log_lines.specs.declared.line.LogLine.TheVariants.{Heading, Arrives, Fires, Does, IsLate, Ends}

-- an arrival with what it fired
abbrev pub entry_with : Arrival → Option Firing → Entry
entry_with arrival firing = record { number = arrival.number; source = arrival.source; message = arrival.message; stamp = arrival.stamp; firing = firing }

-- a firing that did nothing yet
abbrev pub fired : ℕ → List ℕ → Firing
fired rule taken = record { rule = rule; taken = taken; effects = [] }

-- how an actor without arrivals ended
abbrev pub ended : Ending → List ℕ → ℕ → ActorRun
ended ending left partials = record { entries = []; late = []; ending = ending; left = left; partials = partials }

-- a run without actors
abbrev pub run_of : Head → Run
run_of head = record { version = head.version; limits = head.limits; feeds = head.feeds; actors = [] }

abbrev pub head_text : Head → List ℕ
head_text head = head_line (run_of head)

-- a version that a run of the plan can have, and numbers within their bounds
pub record HeadFits (plan : Plan) (head : Head) : Type 0 where
  pub version : IsFrom1To 2 head.version
  pub replies : has_reply plan ≡ true → head.version ≡ 2
  pub arrivals : IsFrom1To 1000000 head.limits.arrivals
  pub partials : IsFrom1To 1000000 head.limits.partials
  pub feeds : IsFrom1To 16 head.feeds

abbrev pub line_text : Plan → Head → LogLine → List ℕ
line_text plan head (Heading actor) = line (codes "actor" ∷ name_of_actor plan actor ∷ [])
line_text plan head (Arrives arrival) = arrival_line plan head.version (entry_with arrival None)
line_text plan head (Fires rule taken) = fire_line (fired rule taken)
line_text plan head (Does effect) = effect_line plan effect
line_text plan head (IsLate source count) = late_line plan (source, count)
line_text plan head (Ends ending left partials) = end_line (ended ending left partials)

abbrev pub LineFits : Plan → Head → LogLine → Type 0
LineFits plan head (Heading actor) = actor < length plan.actors
LineFits plan head (Arrives arrival) = EntryFits plan head.version head.feeds (entry_with arrival None)
LineFits plan head (Fires rule taken) = FiringFits plan head.version (fired rule taken)
LineFits plan head (Does effect) = EffectFits plan head.version effect
LineFits plan head (IsLate source count) = LateFits plan head.feeds (source, count)
LineFits plan head (Ends ending left partials) = ActorRunFits plan head.version head.feeds (ended ending left partials)

-- the bytes and LF are the first line
pub record IsHead (plan : Plan) (text : List ℕ) (head : Head) : Type 0 where
  pub fits : HeadFits plan head
  pub is : text ++ 10 ∷ [] ≡ head_text head

-- the bytes and LF are this line of a log with that first line
pub record IsLine (plan : Plan) (head : Head) (text : List ℕ) (given : LogLine) : Type 0 where
  pub fits : LineFits plan head given
  pub is : text ++ 10 ∷ [] ≡ line_text plan head given

-- No text is two lines of a log with one first line, of two forms or of one.
abbrev pub TextsAreOneLine : Type 0
TextsAreOneLine = (plan : Plan) (head : Head) (text : List ℕ) (one other : LogLine) → IsTyped plan → HeadFits plan head → IsLine plan head text one → IsLine plan head text other → one ≡ other
