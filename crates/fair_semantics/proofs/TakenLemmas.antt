-- Chains of fair steps: one that records each message, and what an ended or refusing actor changes.
use Rattle.std.proofs.Common.{◌≡◌, ◌∙◌, ◌⊎◌, inl, inr, ◌+◌, ◌<◌, List, [], ◌∷◌, ◌++◌, length, length-append, Bool, true, false, Option, None, Some, refl, ap, sym, subst, arith}
use Rattle.std.specs.Prelude.{if◌then◌else◌, nat_lt, ◌||◌}
pub use Rattle.std.proofs.lemmas.Bool.{or_parts}
use Rattle.pattern_core.specs.declared.candidate.Candidate.{Candidate}
use Rattle.pattern_core.specs.Matches.{partial_count}
use Rattle.pattern_core.specs.Choice.{choice}
use Rattle.fair_semantics.specs.declared.run.Ending.TheVariants as ending
use Rattle.fair_semantics.specs.declared.run.Outcome.TheVariants as outcome
use Rattle.fair_semantics.specs.declared.run.Entry.{Entry}
use Rattle.fair_semantics.specs.declared.run.Firing.{Firing}
use Rattle.join_base.specs.Taken.{without}
use Rattle.fair_semantics.specs.Step.{Arrival, Setting, State, Stepped, arrival_step, body_at, by_choice, definitions_of, entry_with, fair_step, firing_of, is_refused, is_running, late_step, messages_with, live_with, recorded, running_step, spent_step, step_by}
use Rattle.fair_semantics.specs.Body.{stops}
use Rattle.fair_semantics.specs.Fair.{Sent, after_all}
pub use Rattle.fair_semantics.proofs.ChainLemmas.{arrival_of}

-- what a step leaves
abbrev pub next_of : Setting → State → Sent → State
next_of setting state s = (fair_step setting state s.0 s.1.message s.1.stamp).0

pub record OnlyLate (before after : State) : Type 0 where
  pub entries : after.entries ≡ before.entries
  pub live : after.live ≡ before.live
  pub ending : after.ending ≡ before.ending

pub or_none : (a b : Bool) → a ≡ false → b ≡ false → (a || b) ≡ false
or_none a b p q = λ i. p i || q i

module _ (setting : Setting) where
  -- the chain runs on, and records each message
  abbrev pub Taken : State → List Sent → Type 0
  Taken state [] = Unit {0}
  Taken state (s ∷ sent) = (is_running state.ending ≡ true) × ((is_refused setting state s.1.message s.1.stamp ≡ false) × Taken (next_of setting state s) sent)

  pub late_is : (state : State) (s : Sent) → is_running state.ending ≡ false → next_of setting state s ≡ (late_step state s.0).0
  late_is state s e = ap (λ (b : Bool). (step_by b setting state s.0 s.1.message s.1.stamp).0) e

  pub spent_is : (state : State) (s : Sent) → is_running state.ending ≡ true → is_refused setting state s.1.message s.1.stamp ≡ true → next_of setting state s ≡ (spent_step state s.0).0
  spent_is state s e r = ap (λ (b : Bool). (step_by b setting state s.0 s.1.message s.1.stamp).0) e ∙ ap (λ (b : Bool). (running_step b setting state s.0 s.1.message s.1.stamp).0) r

  pub arrival_is : (state : State) (s : Sent) → is_running state.ending ≡ true → is_refused setting state s.1.message s.1.stamp ≡ false → next_of setting state s ≡ (arrival_step setting (arrival_of state s)).0
  arrival_is state s e r = ap (λ (b : Bool). (step_by b setting state s.0 s.1.message s.1.stamp).0) e ∙ ap (λ (b : Bool). (running_step b setting state s.0 s.1.message s.1.stamp).0) r

  pub ended : (sent : List Sent) (state : State) → is_running state.ending ≡ false → OnlyLate state (after_all setting state sent)
  ended [] state e = record { entries = refl; live = refl; ending = refl }
  ended (s ∷ sent) state e =
      let later = ended sent (late_step state s.0).0 e in
      subst (λ (x : State). OnlyLate state (after_all setting x sent)) (sym (late_is state s e)) record { entries = later.entries; live = later.live; ending = later.ending }

  -- what a refused message leaves: the chain behind it changes late counts alone
  pub spent_on : (s : Sent) (sent : List Sent) (state : State) → is_running state.ending ≡ true → is_refused setting state s.1.message s.1.stamp ≡ true → OnlyLate (spent_step state s.0).0 (after_all setting state (s ∷ sent))
  spent_on s sent state e r = subst (λ (x : State). OnlyLate (spent_step state s.0).0 (after_all setting x sent)) (sym (spent_is state s e r)) (ended sent (spent_step state s.0).0 refl)

  abbrev pub HasEntry : Arrival → State → Type 0
  HasEntry arrival after = (firing : Option Firing) × ((after.entries ≡ arrival.state.entries ++ entry_with arrival firing ∷ []) × (after.late ≡ arrival.state.late))

  pub recorded_by : (arrival : Arrival) (o : Option Candidate) → HasEntry arrival (by_choice setting arrival o).0
  recorded_by arrival None = by (nat_lt setting.limits.partials (partial_count (messages_with arrival) (live_with arrival) (definitions_of setting.rules)))
    where
      by : (b : Bool) → let stepped : Stepped = if b then (recorded arrival None [] ending.Jammed, outcome.Jammed) else (recorded arrival None (live_with arrival) ending.Running, outcome.Kept) in HasEntry arrival stepped.0
      by true = (None, (refl, refl))
      by false = (None, (refl, refl))
  recorded_by arrival (Some c) = by (stops (body_at setting.rules c.rule))
    where
      by : (b : Bool) → HasEntry arrival (if b then recorded arrival (firing_of setting.rules (messages_with arrival) (Some c)) [] ending.Stopped else recorded arrival (firing_of setting.rules (messages_with arrival) (Some c)) (without (live_with arrival) c.taken) ending.Running)
      by true = (firing_of setting.rules (messages_with arrival) (Some c), (refl, refl))
      by false = (firing_of setting.rules (messages_with arrival) (Some c), (refl, refl))

  pub records : (state : State) (s : Sent) → is_running state.ending ≡ true → is_refused setting state s.1.message s.1.stamp ≡ false → HasEntry (arrival_of state s) (next_of setting state s)
  records state s e r = subst (HasEntry (arrival_of state s)) (sym (arrival_is state s e r)) (recorded_by (arrival_of state s) (choice (messages_with (arrival_of state s)) (live_with (arrival_of state s)) (definitions_of setting.rules)))

  pub one_more : (state after : State) (e : Entry) → after.entries ≡ state.entries ++ e ∷ [] → length after.entries ≡ length state.entries + 1
  one_more state after e is = ap length is ∙ length-append state.entries (e ∷ [])

  -- each message is recorded; or the actor has ended, with fewer entries
  abbrev pub Fewer : State → List Sent → Type 0
  Fewer state sent = (is_running (after_all setting state sent).ending ≡ false) × (length (after_all setting state sent).entries < length state.entries + length sent)

  first_taken : (s : Sent) (sent : List Sent) (state : State) → ((next : State) → Taken next sent ⊎ Fewer next sent) → Taken state (s ∷ sent) ⊎ Fewer state (s ∷ sent)
  first_taken s sent state later = by (is_running state.ending) refl
    where
      next : (b : Bool) → is_running state.ending ≡ true → is_refused setting state s.1.message s.1.stamp ≡ b → Taken state (s ∷ sent) ⊎ Fewer state (s ∷ sent)
      next true e r =
          let o = spent_on s sent state e r in
          let count : length (after_all setting state (s ∷ sent)).entries ≡ length state.entries = ap length o.entries in
          inr (ap is_running o.ending, omega arith)
      next false e r =
          let h = records state s e r in
          let more = one_more state (next_of setting state s) (entry_with (arrival_of state s) h.0) h.1.0 in
          elim (later (next_of setting state s)) [
            | inl t ↦ inl (e, (r, t))
            | inr f ↦ inr (f.0, omega (arith, f.1))
          ]

      by : (b : Bool) → is_running state.ending ≡ b → Taken state (s ∷ sent) ⊎ Fewer state (s ∷ sent)
      by false e =
          let o = ended (s ∷ sent) state e in
          let count : length (after_all setting state (s ∷ sent)).entries ≡ length state.entries = ap length o.entries in
          inr (ap is_running o.ending ∙ e, omega arith)
      by true e = next (is_refused setting state s.1.message s.1.stamp) e refl

  pub taken_or_fewer : (sent : List Sent) (state : State) → Taken state sent ⊎ Fewer state sent
  taken_or_fewer [] state = inl tt
  taken_or_fewer (s ∷ sent) state = first_taken s sent state (taken_or_fewer sent)

  pub taken_count : (sent : List Sent) (state : State) → Taken state sent → length (after_all setting state sent).entries ≡ length state.entries + length sent
  taken_count [] state t = omega arith
  taken_count (s ∷ sent) state t =
      let h = records state s t.0 t.1.0 in
      let more = one_more state (next_of setting state s) (entry_with (arrival_of state s) h.0) h.1.0 in
      let later = taken_count sent (next_of setting state s) t.1.1 in
      omega arith

  pub not_late : (sent : List Sent) (state : State) → Taken state sent → (after_all setting state sent).late ≡ state.late
  not_late [] state t = refl
  not_late (s ∷ sent) state t = let h = records state s t.0 t.1.0 in not_late sent (next_of setting state s) t.1.1 ∙ h.1.1
