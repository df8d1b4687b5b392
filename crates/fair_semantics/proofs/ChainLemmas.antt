-- The entries that fair steps record: the first of the messages that came, each with its stamp.
use Rattle.std.proofs.Common.{◌≡◌, ◌∙◌, ℕ, ◌+◌, max, List, [], ◌∷◌, ◌++◌, Bool, true, false, Option, None, Some, append_assoc, refl, ap, sym, subst}
use Rattle.std.specs.Prelude.{if◌then◌else◌, nat_lt}
use Rattle.std.proofs.lemmas.List.{append-nil}
use Rattle.pattern_core.specs.declared.candidate.Candidate.{Candidate}
use Rattle.pattern_core.specs.Matches.{partial_count}
use Rattle.pattern_core.specs.Choice.{choice}
use Rattle.fair_semantics.specs.declared.run.Ending.TheVariants as ending
use Rattle.fair_semantics.specs.declared.run.Outcome.TheVariants as outcome
use Rattle.fair_semantics.specs.declared.run.Entry.{Entry}
use Rattle.fair_semantics.specs.declared.run.Firing.{Firing}
use Rattle.join_base.specs.Taken.{without}
use Rattle.fair_semantics.specs.Step.{Arrival, Setting, State, Stepped, arrival_step, body_at, by_choice, definitions_of, entry_with, fair_step, firing_of, is_refused, is_running, late_step, latest_stamp, messages_with, live_with, recorded, running_step, spent_step, step_by}
use Rattle.fair_semantics.specs.Body.{stops}
use Rattle.fair_semantics.specs.Fair.{Sent, after_all}
use Rattle.fair_semantics.proofs.FairLemmas.{latest_stamp-more}

-- the entry of a message, where this was the latest stamp
pub record IsRecordOf (latest : ℕ) (sent : Sent) (entry : Entry) : Type 0 where
  pub source : entry.source ≡ sent.0
  pub message : entry.message ≡ sent.1.message
  pub stamp : entry.stamp ≡ max latest sent.1.stamp + 1

-- the entries of the first of the messages, in order
abbrev pub Records : ℕ → List Sent → List Entry → Type 0
Records latest sent [] = Unit {0}
Records latest [] (entry ∷ entries) = ⊥
Records latest (s ∷ sent) (entry ∷ entries) = IsRecordOf latest s entry × Records entry.stamp sent entries

-- what a chain of steps adds to the entries of a state
pub record Adds (state : State) (sent : List Sent) (after : State) : Type 0 where
  pub new : List Entry
  pub entries_are : after.entries ≡ state.entries ++ new
  pub records : Records (latest_stamp state.entries) sent new

abbrev pub arrival_of : State → Sent → Arrival
arrival_of state s = record { state = state; source = s.0; message = s.1.message; stamp = s.1.stamp }

none_new : (state : State) (sent : List Sent) (after : State) → after.entries ≡ state.entries → Adds state sent after
none_new state sent after e = record { new = []; entries_are = e ∙ sym (append-nil state.entries); records = tt }

module _ (setting : Setting) where
  -- an ended actor records nothing
  pub keeps_ended : (sent : List Sent) (state : State) → is_running state.ending ≡ false → (after_all setting state sent).entries ≡ state.entries
  keeps_ended [] state e = refl
  keeps_ended (s ∷ sent) state e =
      let step : (fair_step setting state s.0 s.1.message s.1.stamp).0 ≡ (late_step state s.0).0 = ap (λ (b : Bool). (step_by b setting state s.0 s.1.message s.1.stamp).0) e in
      ap (λ (x : State). (after_all setting x sent).entries) step ∙ keeps_ended sent (late_step state s.0).0 e

  -- a step that records adds the entry of its message
  abbrev pub HasEntry : Arrival → State → Type 0
  HasEntry arrival after = (firing : Option Firing) × (after.entries ≡ arrival.state.entries ++ entry_with arrival firing ∷ [])

  pub recorded_by : (arrival : Arrival) (o : Option Candidate) → HasEntry arrival (by_choice setting arrival o).0
  recorded_by arrival None = by (nat_lt setting.limits.partials (partial_count (messages_with arrival) (live_with arrival) (definitions_of setting.rules)))
    where
      by : (b : Bool) → let stepped : Stepped = if b then (recorded arrival None [] ending.Jammed, outcome.Jammed) else (recorded arrival None (live_with arrival) ending.Running, outcome.Kept) in HasEntry arrival stepped.0
      by true = (None, refl)
      by false = (None, refl)
  recorded_by arrival (Some c) = by (stops (body_at setting.rules c.rule))
    where
      by : (b : Bool) → HasEntry arrival (if b then recorded arrival (firing_of setting.rules (messages_with arrival) (Some c)) [] ending.Stopped else recorded arrival (firing_of setting.rules (messages_with arrival) (Some c)) (without (live_with arrival) c.taken) ending.Running)
      by true = (firing_of setting.rules (messages_with arrival) (Some c), refl)
      by false = (firing_of setting.rules (messages_with arrival) (Some c), refl)

  adds_one : (s : Sent) (sent : List Sent) (state : State) → ((next : State) → Adds next sent (after_all setting next sent)) → Adds state (s ∷ sent) (after_all setting (fair_step setting state s.0 s.1.message s.1.stamp).0 sent)
  adds_one s sent state later = by (is_running state.ending) refl
    where
      running : (b : Bool) → Adds state (s ∷ sent) (after_all setting (running_step b setting state s.0 s.1.message s.1.stamp).0 sent)
      running true = none_new state (s ∷ sent) (after_all setting (spent_step state s.0).0 sent) (keeps_ended sent (spent_step state s.0).0 refl)
      running false =
          let arrival : Arrival = arrival_of state s in
          let next : State = (arrival_step setting arrival).0 in
          let r = recorded_by arrival (choice (messages_with arrival) (live_with arrival) (definitions_of setting.rules)) in
          let entry : Entry = entry_with arrival r.0 in
          let a = later next in
          record {
            new = entry ∷ a.new;
            entries_are = a.entries_are ∙ ap (λ (xs : List Entry). xs ++ a.new) r.1 ∙ append_assoc state.entries (entry ∷ []) a.new;
            records = (record { source = refl; message = refl; stamp = refl }, subst (λ (l : ℕ). Records l sent a.new) (ap latest_stamp r.1 ∙ latest_stamp-more state.entries entry) a.records);
          }

      by : (b : Bool) → is_running state.ending ≡ b → Adds state (s ∷ sent) (after_all setting (step_by b setting state s.0 s.1.message s.1.stamp).0 sent)
      by false e = none_new state (s ∷ sent) (after_all setting (late_step state s.0).0 sent) (keeps_ended sent (late_step state s.0).0 e)
      by true e = running (is_refused setting state s.1.message s.1.stamp)

  -- the entries of a chain of steps are those of the first of its messages
  pub adds : (sent : List Sent) (state : State) → Adds state sent (after_all setting state sent)
  adds [] state = none_new state [] state refl
  adds (s ∷ sent) state = adds_one s sent state (adds sent)
