-- The entries of a chain of fair steps hang neither on late counts nor on messages that were not recorded.
use Rattle.std.proofs.Common.{◌≡◌, ◌∙◌, inl, inr, ℕ, ◌+◌, List, [], ◌∷◌, ◌++◌, length, length-append, Bool, true, false, Option, None, Some, refl, ap, sym, arith}
use Rattle.std.specs.Prelude.{if◌then◌else◌, nat_lt}
use Rattle.std.proofs.lemmas.List.{append-nil, nil_from_length}
use Rattle.join_base.specs.Taken.{without}
use Rattle.pattern_core.specs.declared.candidate.Candidate.{Candidate}
use Rattle.pattern_core.specs.Matches.{partial_count}
use Rattle.pattern_core.specs.Choice.{choice}
use Rattle.fair_semantics.specs.declared.run.Ending.TheVariants as ending
use Rattle.fair_semantics.specs.declared.run.Outcome.TheVariants as outcome
use Rattle.fair_semantics.specs.declared.run.Entry.{Entry}
use Rattle.fair_semantics.specs.declared.run.Firing.{Firing}
use Rattle.fair_semantics.specs.Body.{stops}
use Rattle.fair_semantics.specs.Step.{Arrival, Setting, State, Stepped, body_at, by_choice, definitions_of, firing_of, is_refused, is_running, messages_with, live_with, opening, recorded, running_step, step_by}
use Rattle.fair_semantics.specs.Fair.{Sent, after_all}
use Rattle.fair_semantics.proofs.ChainLemmas.{adds, arrival_of}
use Rattle.fair_semantics.proofs.FairLemmas.{after_all-append}
use Rattle.fair_semantics.proofs.TakenLemmas.{ended, next_of, taken_count, taken_or_fewer}
use Rattle.history_law.specs.History.{entries_by}

-- a state without its late counts
abbrev pub without_late : State → State
without_late state = record { entries = state.entries; live = state.live; ending = state.ending; late = record { feeds = []; actors = [] } }

module _ (setting : Setting) where
  -- ---- late counts

  choice_alone : (state : State) (sent : Sent) (o : Option Candidate) → without_late (by_choice setting (arrival_of (without_late state) sent) o).0 ≡ without_late (by_choice setting (arrival_of state sent) o).0
  choice_alone state sent None = by (nat_lt setting.limits.partials (partial_count (messages_with (arrival_of state sent)) (live_with (arrival_of state sent)) (definitions_of setting.rules)))
    where
      bare : Arrival
      bare = arrival_of (without_late state) sent

      whole : Arrival
      whole = arrival_of state sent

      by : (b : Bool) → let one : Stepped = if b then (recorded bare None [] ending.Jammed, outcome.Jammed) else (recorded bare None (live_with bare) ending.Running, outcome.Kept) in
          let two : Stepped = if b then (recorded whole None [] ending.Jammed, outcome.Jammed) else (recorded whole None (live_with whole) ending.Running, outcome.Kept) in
          without_late one.0 ≡ without_late two.0
      by true = refl
      by false = refl
  choice_alone state sent (Some c) = by (stops (body_at setting.rules c.rule))
    where
      firing : Option Firing
      firing = firing_of setting.rules (messages_with (arrival_of state sent)) (Some c)

      bare : Arrival
      bare = arrival_of (without_late state) sent

      whole : Arrival
      whole = arrival_of state sent

      by : (b : Bool) → without_late (if b then recorded bare firing [] ending.Stopped else recorded bare firing (without (live_with bare) c.taken) ending.Running)
          ≡ without_late (if b then recorded whole firing [] ending.Stopped else recorded whole firing (without (live_with whole) c.taken) ending.Running)
      by true = refl
      by false = refl

  step_alone : (state : State) (sent : Sent) → without_late (next_of setting (without_late state) sent) ≡ without_late (next_of setting state sent)
  step_alone state sent = by_running (is_running state.ending)
    where
      by_refused : (b : Bool) → without_late (running_step b setting (without_late state) sent.0 sent.1.message sent.1.stamp).0 ≡ without_late (running_step b setting state sent.0 sent.1.message sent.1.stamp).0
      by_refused true = refl
      by_refused false = choice_alone state sent (choice (messages_with (arrival_of state sent)) (live_with (arrival_of state sent)) (definitions_of setting.rules))

      by_running : (b : Bool) → without_late (step_by b setting (without_late state) sent.0 sent.1.message sent.1.stamp).0 ≡ without_late (step_by b setting state sent.0 sent.1.message sent.1.stamp).0
      by_running false = refl
      by_running true = by_refused (is_refused setting state sent.1.message sent.1.stamp)

  chain_alone : (sent : List Sent) (state : State) → without_late (after_all setting (without_late state) sent) ≡ without_late (after_all setting state sent)
  chain_alone [] state = refl
  chain_alone (s ∷ sent) state =
      sym (chain_alone sent (next_of setting (without_late state) s))
      ∙ ap (λ (x : State). without_late (after_all setting x sent)) (step_alone state s)
      ∙ chain_alone sent (next_of setting state s)

  pub sources_alone : (feeds actors : ℕ) (sent : List Sent) → (after_all setting (opening feeds actors) sent).entries ≡ entries_by setting sent
  sources_alone feeds actors sent = sym (ap (λ (x : State). x.entries) (chain_alone sent (opening feeds actors)))

  -- ---- messages that were not recorded

  -- the entries behind some messages begin those behind more
  pub goes_on : (state : State) (front rest : List Sent) → (more : List Entry) × ((after_all setting state (front ++ rest)).entries ≡ (after_all setting state front).entries ++ more)
  goes_on state front rest =
      let a = adds setting rest (after_all setting state front) in
      (a.new, ap (λ (x : State). x.entries) (after_all-append setting state front rest) ∙ a.entries_are)

  -- where as many were recorded as the first messages are, these are they
  pub rest_alone : (state : State) (front rest : List Sent) → length (after_all setting state (front ++ rest)).entries ≡ length state.entries + length front → (after_all setting state (front ++ rest)).entries ≡ (after_all setting state front).entries
  rest_alone state front rest count =
      elim (taken_or_fewer setting front state) [
        | inl taken ↦
            let (more, whole) = goes_on state front rest in
            let own = taken_count setting front state taken in
            let sum : length ((after_all setting state front).entries ++ more) ≡ length (after_all setting state front).entries + length more = length-append (after_all setting state front).entries more in
            let size : length (after_all setting state (front ++ rest)).entries ≡ length ((after_all setting state front).entries ++ more) = ap length whole in
            let none : more ≡ [] = nil_from_length more (omega arith) in
            whole ∙ ap (λ (es : List Entry). (after_all setting state front).entries ++ es) none ∙ append-nil (after_all setting state front).entries
        | inr fewer ↦
            ap (λ (x : State). x.entries) (after_all-append setting state front rest) ∙ (ended setting rest (after_all setting state front) fewer.0).entries
      ]
