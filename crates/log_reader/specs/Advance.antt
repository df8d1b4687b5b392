-- What one line more makes of what was read.
use Rattle.std.specs.Prelude.{◌≡◌, ℕ, Bool, not, ◌&&◌, ◌==◌, List, length, None, Some, Result, Ok, Err}
use Rattle.script_types.specs.declared.plan.Plan.{Plan}
use Rattle.fair_semantics.specs.declared.run.Run.{Run}
use Rattle.log_lines.specs.declared.line.LogLine.{LogLine}
use Rattle.log_lines.specs.Forms.{IsLine}
use Rattle.log_reader.specs.declared.draft.Draft.{Draft}
use Rattle.log_reader.specs.declared.fault.LogFault.{LogFault}
use Rattle.log_reader.specs.declared.fault.LogFault.TheVariants.{Bad, NoMemory}
use Rattle.log_reader.specs.Draft.{is_open, step}

-- the text is a line that leads from one draft to the next
pub record Adds (plan : Plan) (draft : Draft) (text : List ℕ) (next : Draft) : Type 0 where
  pub given : LogLine
  pub is : IsLine plan draft.head text given
  pub leads : step draft given ≡ Some next

-- no line that the text is may stand there
abbrev pub AddsNothing : Plan → Draft → List ℕ → Type 0
AddsNothing plan draft text = (given : LogLine) → IsLine plan draft.head text given → step draft given ≡ None

-- the draft has become the next one, or the line with this number is at fault
abbrev pub Advances : Plan → Draft → List ℕ → ℕ → Draft → Result (Unit {0}) LogFault → Type 0
Advances plan draft text number next (Ok done) = Adds plan draft text next
Advances plan draft text number next (Err (Bad line)) = (line ≡ number) × AddsNothing plan draft text
Advances plan draft text number next (Err NoMemory) = Unit {0}

-- the sections of all actors are read
abbrev pub is_done : Plan → Draft → Bool
is_done plan draft = not (is_open draft.reached) && length draft.actors == length plan.actors

-- the run that was read
abbrev pub run_of : Draft → Run
run_of draft = record { version = draft.head.version; limits = draft.head.limits; feeds = draft.head.feeds; actors = draft.actors }
