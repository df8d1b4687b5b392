-- What a line adds to what the lines before it say, or none where it may not stand there.
use Rattle.std.specs.Prelude.{◌≡◌, ℕ, ◌==◌, Bool, true, false, nat_lt, List, [], ◌∷◌, ◌++◌, length, Option, None, Some, Result, Ok, Err, if◌then◌else◌}
use Rattle.join_base.specs.declared.message.Source.{Source}
use Rattle.fair_semantics.specs.declared.run.Effect.{Effect}
use Rattle.fair_semantics.specs.declared.run.Ending.{Ending}
use Rattle.fair_semantics.specs.declared.run.Entry.{Entry}
use Rattle.fair_semantics.specs.declared.run.Firing.{Firing}
use Rattle.fair_semantics.specs.Fits.{source_place}
use Rattle.log_lines.specs.declared.line.Arrival.{Arrival}
use Rattle.log_lines.specs.declared.line.Head.{Head}
use Rattle.log_lines.specs.declared.line.LogLine.{LogLine}
use Rattle.log_lines.specs.declared.line.LogLine.TheVariants as line
use Rattle.log_lines.specs.declared.fault.LineFault.{LineFault}
use Rattle.log_lines.specs.Gives.{Fails, where_true}
use Rattle.log_lines.specs.Forms.{entry_with, fired}
use Rattle.log_reader.specs.declared.draft.Draft.{Draft}
use Rattle.log_reader.specs.declared.draft.Open.{Open}
use Rattle.log_reader.specs.declared.draft.Open.TheVariants.{Heading, Entries, Arrived, Fired, Lates}

-- What was changed is now the value, exactly where there is one, unless there was no memory. Behind a fault nothing is
-- said of it.
abbrev pub Becomes : {X : Type 0} → Result (Unit {0}) LineFault → X → Option X → Type 0
Becomes (Ok done) changed value = value ≡ Some changed
Becomes (Err fault) changed value = Fails fault value

-- nothing but the first line
abbrev pub opening : Head → Draft
opening head = record { head = head; actors = []; entries = []; late = []; reached = Heading }

-- the entry that is open
abbrev pub open_entry : Open → List Entry
open_entry Heading = []
open_entry Entries = []
open_entry (Arrived arrival) = entry_with arrival None ∷ []
open_entry (Fired arrival firing) = entry_with arrival (Some firing) ∷ []
open_entry (Lates last) = []

-- the entries with the open one
abbrev pub held : Draft → List Entry
held draft = draft.entries ++ open_entry draft.reached

-- a section has begun
abbrev pub is_open : Open → Bool
is_open Heading = false
is_open _ = true

-- entries may follow
abbrev pub takes_entries : Open → Bool
takes_entries Heading = false
takes_entries (Lates last) = false
takes_entries _ = true

-- the source comes later than that of the late line before, if there is one
abbrev pub follows : ℕ → Open → Source → Bool
follows feeds (Lates last) source = nat_lt (source_place feeds last) (source_place feeds source)
follows feeds _ source = true

abbrev pub with_open : Draft → Open → Draft
with_open draft reached = record draft { reached = reached }

-- the open entry stands behind the others, and what comes next is reached
abbrev pub closes : Draft → Open → Draft
closes draft next = record draft { entries = held draft; reached = next }

abbrev pub begins : Draft → ℕ → Option Draft
begins draft actor = if is_open draft.reached then None else where_true (actor == length draft.actors) (Some (with_open draft Entries))

abbrev pub arrives : Draft → Arrival → Option Draft
arrives draft arrival = where_true (takes_entries draft.reached) (Some (closes draft (Arrived arrival)))

abbrev pub fires_at : Open → Draft → ℕ → List ℕ → Option Draft
fires_at (Arrived arrival) draft rule taken = Some (with_open draft (Fired arrival (fired rule taken)))
fires_at _ draft rule taken = None

abbrev pub fires : Draft → ℕ → List ℕ → Option Draft
fires draft rule taken = fires_at draft.reached draft rule taken

abbrev pub with_effect : Firing → Effect → Firing
with_effect firing effect = record firing { effects = firing.effects ++ effect ∷ [] }

abbrev pub acts_at : Open → Draft → Effect → Option Draft
acts_at (Fired arrival firing) draft effect = Some (with_open draft (Fired arrival (with_effect firing effect)))
acts_at _ draft effect = None

abbrev pub acts : Draft → Effect → Option Draft
acts draft effect = acts_at draft.reached draft effect

abbrev pub is_late : Draft → Source → ℕ → Option Draft
is_late draft source count =
    if is_open draft.reached then where_true (follows draft.head.feeds draft.reached source) (Some (record (closes draft (Lates source)) { late = draft.late ++ (source, count) ∷ [] }))
    else None

abbrev pub ends : Draft → Ending → List ℕ → ℕ → Option Draft
ends draft ending left partials =
    where_true (is_open draft.reached) (Some (record {
      head = draft.head;
      actors = draft.actors ++ record { entries = held draft; late = draft.late; ending = ending; left = left; partials = partials } ∷ [];
      entries = [];
      late = [];
      reached = Heading;
    }))

abbrev pub step : Draft → LogLine → Option Draft
step draft (line.Heading actor) = begins draft actor
step draft (line.Arrives arrival) = arrives draft arrival
step draft (line.Fires rule taken) = fires draft rule taken
step draft (line.Does effect) = acts draft effect
step draft (line.IsLate source count) = is_late draft source count
step draft (line.Ends ending left partials) = ends draft ending left partials
