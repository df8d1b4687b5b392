-- What a chain of fair steps does does not depend on stamps, as long as none is the greatest.
use Rattle.std.proofs.Common.{◌≡◌, ◌∙◌, ℕ, ◌+◌, List, [], ◌∷◌, ◌++◌, length, map, Bool, true, false, Option, None, Some, refl, ap, sym}
use Rattle.std.specs.Prelude.{if◌then◌else◌, nat_lt}
use Rattle.std.proofs.lemmas.List.{length-map, map-append}
use Rattle.join_base.specs.declared.message.Message.{Message}
use Rattle.join_base.specs.declared.message.Source.{Source}
use Rattle.pattern_core.specs.declared.candidate.Candidate.{Candidate}
use Rattle.pattern_core.specs.Matches.{partial_count}
use Rattle.pattern_core.specs.Choice.{choice}
use Rattle.fair_semantics.specs.declared.run.Ending.{Ending}
use Rattle.fair_semantics.specs.declared.run.Ending.TheVariants as ending
use Rattle.fair_semantics.specs.declared.run.Outcome.TheVariants as outcome
use Rattle.fair_semantics.specs.declared.run.Entry.{Entry}
use Rattle.fair_semantics.specs.declared.run.Firing.{Firing}
use Rattle.join_base.specs.Late.{Late}
use Rattle.join_base.specs.Taken.{without}
use Rattle.fair_semantics.specs.Step.{Arrival, Setting, State, Stepped, arrival_step, body_at, by_choice, definitions_of, entry_with, firing_of, recorded_messages, messages_with, live_with, number_of, recorded}
use Rattle.fair_semantics.specs.Body.{stops}
use Rattle.fair_semantics.specs.Fair.{Sent}
use Rattle.fair_semantics.specs.Linked.{unstamped_entry}
pub use Rattle.fair_semantics.proofs.TakenLemmas.{next_of}

pub messages_bare : (entries : List Entry) → recorded_messages (map unstamped_entry entries) ≡ recorded_messages entries
messages_bare [] = refl
messages_bare (e ∷ entries) = ap (λ (ms : List Message). e.message ∷ ms) (messages_bare entries)

-- a state without the stamps of its entries
abbrev pub bare_state : State → State
bare_state state = record { entries = map unstamped_entry state.entries; live = state.live; ending = state.ending; late = state.late }

abbrev arrival_of : State → Sent → Arrival
arrival_of state s = record { state = state; source = s.0; message = s.1.message; stamp = s.1.stamp }

module _ (setting : Setting) where
  -- ---- one arrival

  abbrev with_one : List Entry → ℕ → Source → Message → Option Firing → List ℕ → Ending → Late → State
  with_one entries number source m firing live end late = record {
    entries = entries ++ record { number = number; source = source; message = m; stamp = 0; firing = firing } ∷ [];
    live = live;
    ending = end;
    late = late;
  }

  -- what an arrival leaves but for stamps, by the choice
  abbrev left_by : List Entry → List Message → ℕ → List ℕ → Late → Source → Message → Option Candidate → State
  left_by entries messages number live late source m None =
      if nat_lt setting.limits.partials (partial_count messages live (definitions_of setting.rules)) then with_one entries number source m None [] ending.Jammed late
      else with_one entries number source m None live ending.Running late
  left_by entries messages number live late source m (Some c) =
      let firing : Option Firing = firing_of setting.rules messages (Some c) in
      if stops (body_at setting.rules c.rule) then with_one entries number source m firing [] ending.Stopped late
      else with_one entries number source m firing (without live c.taken) ending.Running late

  recorded_bare : (a : Arrival) (firing : Option Firing) (live : List ℕ) (end : Ending) → bare_state (recorded a firing live end) ≡ with_one (map unstamped_entry a.state.entries) (number_of a) a.source a.message firing live end a.state.late
  recorded_bare a firing live end = λ i. record { entries = map-append unstamped_entry a.state.entries (entry_with a firing ∷ []) i; live = live; ending = end; late = a.state.late }

  by_choice_bare : (a : Arrival) (o : Option Candidate) → bare_state (by_choice setting a o).0 ≡ left_by (map unstamped_entry a.state.entries) (messages_with a) (number_of a) (live_with a) a.state.late a.source a.message o
  by_choice_bare a None = by (nat_lt setting.limits.partials (partial_count (messages_with a) (live_with a) (definitions_of setting.rules)))
    where
      by : (b : Bool) → let stepped : Stepped = if b then (recorded a None [] ending.Jammed, outcome.Jammed) else (recorded a None (live_with a) ending.Running, outcome.Kept) in
          bare_state stepped.0 ≡ (if b then with_one (map unstamped_entry a.state.entries) (number_of a) a.source a.message None [] ending.Jammed a.state.late else with_one (map unstamped_entry a.state.entries) (number_of a) a.source a.message None (live_with a) ending.Running a.state.late)
      by true = recorded_bare a None [] ending.Jammed
      by false = recorded_bare a None (live_with a) ending.Running
  by_choice_bare a (Some c) = by (stops (body_at setting.rules c.rule))
    where
      firing : Option Firing
      firing = firing_of setting.rules (messages_with a) (Some c)

      by : (b : Bool) → bare_state (if b then recorded a firing [] ending.Stopped else recorded a firing (without (live_with a) c.taken) ending.Running)
          ≡ (if b then with_one (map unstamped_entry a.state.entries) (number_of a) a.source a.message firing [] ending.Stopped a.state.late else with_one (map unstamped_entry a.state.entries) (number_of a) a.source a.message firing (without (live_with a) c.taken) ending.Running a.state.late)
      by true = recorded_bare a firing [] ending.Stopped
      by false = recorded_bare a firing (without (live_with a) c.taken) ending.Running

  -- two states that differ in stamps alone do so behind an arrival of one message with any stamps
  pub arrival_alike : (state other : State) → bare_state state ≡ bare_state other → (source : Source) (m : Message) (one two : ℕ)
      → bare_state (arrival_step setting record { state = state; source = source; message = m; stamp = one }).0 ≡ bare_state (arrival_step setting record { state = other; source = source; message = m; stamp = two }).0
  arrival_alike state other same source m one two =
      let first : Arrival = record { state = state; source = source; message = m; stamp = one } in
      let second : Arrival = record { state = other; source = source; message = m; stamp = two } in
      let messages : recorded_messages state.entries ≡ recorded_messages other.entries = sym (messages_bare state.entries) ∙ ap (λ (s : State). recorded_messages s.entries) same ∙ messages_bare other.entries in
      let count : length state.entries ≡ length other.entries = sym (length-map state.entries unstamped_entry) ∙ ap (λ (s : State). length s.entries) same ∙ length-map other.entries unstamped_entry in
      let defs = definitions_of setting.rules in
      by_choice_bare first (choice (messages_with first) (live_with first) defs)
      ∙ (λ i. left_by (same i).entries (messages i ++ m ∷ []) (count i + 1) ((same i).live ++ (count i + 1) ∷ []) (same i).late source m (choice (messages i ++ m ∷ []) ((same i).live ++ (count i + 1) ∷ []) defs))
      ∙ sym (by_choice_bare second (choice (messages_with second) (live_with second) defs))
