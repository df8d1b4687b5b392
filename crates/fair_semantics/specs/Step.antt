-- The fair step: one arrival at one actor.
use Rattle.std.specs.Prelude.{ℕ, ◌+◌, ◌-◌, List, [], ◌∷◌, ◌++◌, Bool, true, false, not, ◌&&◌, ◌||◌, nat_lt, nat_le, max, Option, Some, None, map, length, slice_get, replicate, if◌then◌else◌}
use Rattle.join_base.specs.declared.message.Value.{Value}
use Rattle.join_base.specs.declared.message.Sort.{Sort}
use Rattle.join_base.specs.declared.message.Message.{Message}
use Rattle.join_base.specs.declared.message.Source.{Source}
use Rattle.join_base.specs.Stamps.{greatest_stamp}
use Rattle.join_base.specs.Late.{Late, late_more}
use Rattle.join_base.specs.Taken.{without}
use Rattle.guard_eval.specs.Meaning.{is_of_sort}
use Rattle.pattern_core.specs.declared.definition.Definition.{Definition}
use Rattle.pattern_core.specs.declared.candidate.Candidate.{Candidate}
use Rattle.pattern_core.specs.Matches.{partial_count}
use Rattle.pattern_core.specs.Choice.{choice}
use Rattle.script_types.specs.declared.plan.Rule.{Rule}
use Rattle.script_types.specs.declared.plan.Statement.{Statement}
use Rattle.fair_semantics.specs.declared.run.Limits.{Limits}
use Rattle.fair_semantics.specs.declared.run.Outcome.{Outcome}
use Rattle.fair_semantics.specs.declared.run.Outcome.TheVariants as outcome
use Rattle.fair_semantics.specs.declared.run.Ending.{Ending}
use Rattle.fair_semantics.specs.declared.run.Ending.TheVariants as ending
use Rattle.fair_semantics.specs.declared.run.Entry.{Entry}
use Rattle.fair_semantics.specs.declared.run.Firing.{Firing}
use Rattle.fair_semantics.specs.Body.{effects_of, stops}

-- an actor between two arrivals
pub record State : Type 0 where
  pub entries : List Entry
  pub live : List ℕ
  pub ending : Ending
  pub late : Late

-- what an actor is told at its start and never changes: the types of the fields of each kind, its rules and its limits
pub record Setting : Type 0 where
  pub sorts : List (List Sort)
  pub rules : List Rule
  pub limits : Limits

-- no entry, no number, running, and no message late
abbrev pub opening : ℕ → ℕ → State
opening feeds actors = record {
  entries = [];
  live = [];
  ending = ending.Running;
  late = record { feeds = replicate feeds 0; actors = replicate actors 0 };
}

abbrev pub are_of_sorts : List Sort → List Value → Bool
are_of_sorts [] [] = true
are_of_sorts [] (v ∷ values) = false
are_of_sorts (sort ∷ sorts) [] = false
are_of_sorts (sort ∷ sorts) (v ∷ values) = is_of_sort sort v && are_of_sorts sorts values

abbrev pub fits_sorts : Option (List Sort) → List Value → Bool
fits_sorts None values = false
fits_sorts (Some sorts) values = are_of_sorts sorts values

-- the kind exists, and the fields are as many and of the types that it has
abbrev pub fits : List (List Sort) → Message → Bool
fits sorts message = fits_sorts (slice_get sorts message.kind) message.fields

abbrev pub recorded_messages : List Entry → List Message
recorded_messages entries = map (λ entry. entry.message) entries

abbrev pub definitions_of : List Rule → List Definition
definitions_of rules = map (λ rule. rule.definition) rules

abbrev pub body_of : Option Rule → List Statement
body_of None = []
body_of (Some rule) = rule.body

-- the body of the rule with this number, from 1
abbrev pub body_at : List Rule → ℕ → List Statement
body_at rules rule = body_of (slice_get rules (rule - 1))

-- what a step leaves, and its outcome
abbrev pub Stepped : Type 0
Stepped = State × Outcome

abbrev pub is_running : Ending → Bool
is_running ending.Running = true
is_running ending.Stopped = false
is_running ending.Jammed = false
is_running ending.Spent = false

-- an ended actor counts the message as late
abbrev pub late_step : State → Source → Stepped
late_step state source = (record { entries = state.entries; live = state.live; ending = state.ending; late = late_more state.late source }, outcome.Late)

-- a full actor, or a message that it cannot take: the actor ends, and the message is late
abbrev pub spent_step : State → Source → Stepped
spent_step state source = (record { entries = state.entries; live = []; ending = ending.Spent; late = late_more state.late source }, outcome.Spent)

-- the stamp of the last of the entries, or this one where there is none
abbrev pub last_stamp : ℕ → List Entry → ℕ
last_stamp before [] = before
last_stamp before (entry ∷ more) = last_stamp entry.stamp more

-- the stamp of the last entry, or 0
abbrev pub latest_stamp : List Entry → ℕ
latest_stamp entries = last_stamp 0 entries

-- an arrival: its message with the stamp that it carries, and below the numbers with it
pub record Arrival : Type 0 where
  pub state : State
  pub source : Source
  pub message : Message
  pub stamp : ℕ

abbrev pub number_of : Arrival → ℕ
number_of arrival = length arrival.state.entries + 1

abbrev pub messages_with : Arrival → List Message
messages_with arrival = recorded_messages arrival.state.entries ++ arrival.message ∷ []

abbrev pub live_with : Arrival → List ℕ
live_with arrival = arrival.state.live ++ number_of arrival ∷ []

-- 1 more than the greater of the latest stamp and the one that the message carries
abbrev pub stamp_of : Arrival → ℕ
stamp_of arrival = max (latest_stamp arrival.state.entries) arrival.stamp + 1

abbrev pub entry_with : Arrival → Option Firing → Entry
entry_with arrival firing = record { number = number_of arrival; source = arrival.source; message = arrival.message; stamp = stamp_of arrival; firing = firing }

-- the state with the new entry
abbrev pub recorded : Arrival → Option Firing → List ℕ → Ending → State
recorded arrival firing live end = record {
  entries = arrival.state.entries ++ entry_with arrival firing ∷ [];
  live = live;
  ending = end;
  late = arrival.state.late;
}

-- what a choice fires, what it leaves, and how it is called
abbrev pub firing_of : List Rule → List Message → Option Candidate → Option Firing
firing_of rules messages None = None
firing_of rules messages (Some chosen) =
    Some record { rule = chosen.rule; taken = chosen.taken; effects = effects_of messages chosen.taken (body_at rules chosen.rule) }

-- the choice fires: its numbers leave, and the body runs
abbrev pub fired_step : Setting → Arrival → Candidate → Stepped
fired_step setting arrival chosen =
    let firing : Option Firing = firing_of setting.rules (messages_with arrival) (Some chosen) in
    (if stops (body_at setting.rules chosen.rule) then recorded arrival firing [] ending.Stopped else recorded arrival firing (without (live_with arrival) chosen.taken) ending.Running, outcome.Fired)

-- no match: the actor jams where it would keep too many partial matches
abbrev pub kept_step : Setting → Arrival → Stepped
kept_step setting arrival =
    if nat_lt setting.limits.partials (partial_count (messages_with arrival) (live_with arrival) (definitions_of setting.rules))
    then (recorded arrival None [] ending.Jammed, outcome.Jammed)
    else (recorded arrival None (live_with arrival) ending.Running, outcome.Kept)

abbrev pub by_choice : Setting → Arrival → Option Candidate → Stepped
by_choice setting arrival None = kept_step setting arrival
by_choice setting arrival (Some chosen) = fired_step setting arrival chosen

abbrev pub arrival_step : Setting → Arrival → Stepped
arrival_step setting arrival = by_choice setting arrival (choice (messages_with arrival) (live_with arrival) (definitions_of setting.rules))

-- whether a running actor takes no further message: it is full, or the message does not fit, or no stamp is left
abbrev pub is_refused : Setting → State → Message → ℕ → Bool
is_refused setting state message stamp =
    nat_le setting.limits.arrivals (length state.entries) || (not (fits setting.sorts message) || nat_le greatest_stamp (max (latest_stamp state.entries) stamp))

abbrev pub running_step : Bool → Setting → State → Source → Message → ℕ → Stepped
running_step true setting state source message stamp = spent_step state source
running_step false setting state source message stamp = arrival_step setting record { state = state; source = source; message = message; stamp = stamp }

abbrev pub step_by : Bool → Setting → State → Source → Message → ℕ → Stepped
step_by false setting state source message stamp = late_step state source
step_by true setting state source message stamp = running_step (is_refused setting state message stamp) setting state source message stamp

-- the fair step with a message and the stamp that it carries, by the first case that applies: late, spent, fired,
-- jammed or kept
abbrev pub fair_step : Setting → State → Source → Message → ℕ → Stepped
fair_step setting state source message stamp = step_by (is_running state.ending) setting state source message stamp
