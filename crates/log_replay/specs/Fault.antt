-- The lines of a log that are in fault.
use Rattle.std.specs.Prelude.{◌≡◌, ℕ, ◌+◌, ◌<◌, ◌≤◌, List, [], ◌∷◌, ◌++◌, codes, Option, None, Some, IfSome, map, length, slice_get}
use Rattle.join_base.specs.declared.message.Source.TheVariants.{Actor}
use Rattle.script_types.specs.declared.plan.Plan.{Plan}
use Rattle.script_types.specs.declared.plan.ActorPlan.{ActorPlan}
use Rattle.fair_semantics.specs.declared.run.Ending.TheVariants.{Running}
use Rattle.fair_semantics.specs.declared.run.Entry.{Entry}
use Rattle.fair_semantics.specs.declared.run.Firing.{Firing}
use Rattle.fair_semantics.specs.declared.run.ActorRun.{ActorRun}
use Rattle.fair_semantics.specs.declared.run.Run.{Run}
use Rattle.fair_semantics.specs.Linked.{messages_of, taken_from}
use Rattle.arrival_log.specs.LogText.{arrival_line, effect_line, end_line, fire_line, head_line, late_line, line}
use Rattle.log_replay.specs.Expected.{expected_actor, expected_posts, expected_run, read_entries}

-- ---- the lines of a run

-- what a line is: an arrival at an actor behind these entries, the end of an actor, or another
pub data LineKind : Type 0 where
  arrives : (actor : ℕ) (before : List Entry) (entry : Entry) → LineKind
  ends : (actor : ℕ) → LineKind
  other : LineKind

pub record Line : Type 0 where
  pub mark : LineKind
  pub text : List ℕ

abbrev pub other_line : List ℕ → Line
other_line text = record { mark = other; text = text }

abbrev pub firing_texts : Plan → Option Firing → List (List ℕ)
firing_texts plan None = []
firing_texts plan (Some firing) = fire_line firing ∷ map (effect_line plan) firing.effects

abbrev pub lines_of_entry : Plan → ℕ → ℕ → List Entry → Entry → List Line
lines_of_entry plan version actor before entry = record { mark = arrives actor before entry; text = arrival_line plan version entry } ∷ map other_line (firing_texts plan entry.firing)

-- the lines of the entries behind these
abbrev pub entries_lines : Plan → ℕ → ℕ → List Entry → List Entry → List Line
entries_lines plan version actor before [] = []
entries_lines plan version actor before (entry ∷ more) = lines_of_entry plan version actor before entry ++ entries_lines plan version actor (before ++ entry ∷ []) more

abbrev pub section_lines : Plan → ℕ → ℕ → ActorPlan → ActorRun → List Line
section_lines plan version actor named own =
    other_line (line (codes "actor" ∷ named.name ∷ [])) ∷ (entries_lines plan version actor [] own.entries ++ (map (λ late. other_line (late_line plan late)) own.late ++ record { mark = ends actor; text = end_line own } ∷ []))

-- the sections of the actors from this one on
abbrev pub sections_from : Plan → ℕ → ℕ → List ActorPlan → List ActorRun → List Line
sections_from plan version actor [] runs = []
sections_from plan version actor (named ∷ actors) [] = []
sections_from plan version actor (named ∷ actors) (own ∷ runs) = section_lines plan version actor named own ++ sections_from plan version (actor + 1) actors runs

-- the lines of the run's log text, in order
abbrev pub lines_of : Plan → Run → List Line
lines_of plan run = other_line (head_line run) ∷ sections_from plan run.version 0 plan.actors run.actors

abbrev pub texts_of : List Line → List (List ℕ)
texts_of lines = map (λ (l : Line). l.text) lines

-- ---- which of them are in fault

-- an arrival from an actor, behind k others from it, is that actor's post to this one behind k others, by its expected
-- entries
abbrev pub IsPosted : Plan → Run → ℕ → List Entry → Entry → Type 0
IsPosted plan run actor before entry = (from : ℕ) → entry.source ≡ Actor from → slice_get (messages_of (expected_posts plan run from actor)) (length (taken_from (Actor from) before)) ≡ Some entry.message

-- where the actor is expected to run on, each post to it has arrived
abbrev pub LacksNone : Plan → Run → ℕ → Type 0
LacksNone plan run actor = (expected_actor plan run actor).ending ≡ Running → (from : ℕ) → from < length plan.actors → length (expected_posts plan run from actor) ≤ length (taken_from (Actor from) (read_entries run actor))

abbrev pub Keeps : Plan → Run → LineKind → Type 0
Keeps plan run (arrives actor before entry) = IsPosted plan run actor before entry
Keeps plan run (ends actor) = LacksNone plan run actor
Keeps plan run other = Unit {0}

-- the line at a place, from 0, is right: what it says of posts holds, and it is the line there of the expected run's
-- text; past the last line, that text has none either
pub record IsRight (plan : Plan) (run : Run) (place : ℕ) : Type 0 where
  pub keeps : IfSome (slice_get (lines_of plan run) place) (λ (l : Line). Keeps plan run l.mark)
  pub same : slice_get (texts_of (lines_of plan run)) place ≡ slice_get (texts_of (lines_of plan (expected_run plan run))) place

-- the number of the first line in fault, from 1: those before it are right, and it is not
pub record IsFirstInFault (plan : Plan) (run : Run) (number : ℕ) : Type 0 where
  pub place : ℕ
  pub counted : number ≡ place + 1
  pub before : (earlier : ℕ) → earlier < place → IsRight plan run earlier
  pub wrong : IsRight plan run place → ⊥

-- no line is in fault
abbrev pub IsAccepted : Plan → Run → Type 0
IsAccepted plan run = (place : ℕ) → IsRight plan run place
