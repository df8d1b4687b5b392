-- Behind its arrivals late messages spend an actor that runs, and nothing else changes what it keeps and how it ended.
use Rattle.std.proofs.Common.{◌≡◌, ◌∙◌, List, [], ◌∷◌, Bool, true, false, refl, ap, sym}
use Rattle.std.specs.Prelude.{if◌then◌else◌, ◌&&◌}
use Rattle.std.proofs.lemmas.Bool.{and_left, and_right}
use Rattle.join_base.specs.Late.{Late}
use Rattle.fair_semantics.specs.declared.run.Ending.TheVariants as ending
use Rattle.fair_semantics.specs.Step.{Setting, State, is_refused, is_running}
use Rattle.fair_semantics.specs.Fair.{Sent, after_all}
use Rattle.log_replay.specs.Expected.{settled, some_late}
use Rattle.log_replay.proofs.BareLemmas.{bare_state}
use Rattle.log_replay.proofs.TakenLemmas.{ended, spent_on}

-- ---- the state with its late counts

pub settled_as : (state : State) (late : Late) (b : Bool) → (is_running state.ending && some_late late) ≡ b
    → settled state late ≡ (if b then record { entries = state.entries; live = []; ending = ending.Spent; late = late } else record { entries = state.entries; live = state.live; ending = state.ending; late = late })
settled_as state late b e = ap (λ (c : Bool). if c then record { entries = state.entries; live = []; ending = ending.Spent; late = late } else record { entries = state.entries; live = state.live; ending = state.ending; late = late }) e

pub settled_entries : (state : State) (late : Late) → (settled state late).entries ≡ state.entries
settled_entries state late = by (is_running state.ending && some_late late) refl
  where
    by : (b : Bool) → (is_running state.ending && some_late late) ≡ b → (settled state late).entries ≡ state.entries
    by true e = ap (λ (s : State). s.entries) (settled_as state late true e)
    by false e = ap (λ (s : State). s.entries) (settled_as state late false e)

pub settled_late : (state : State) (late : Late) → (settled state late).late ≡ late
settled_late state late = by (is_running state.ending && some_late late) refl
  where
    by : (b : Bool) → (is_running state.ending && some_late late) ≡ b → (settled state late).late ≡ late
    by true e = ap (λ (s : State). s.late) (settled_as state late true e)
    by false e = ap (λ (s : State). s.late) (settled_as state late false e)

-- ---- the ending

-- what is behind the arrivals: a running actor refuses it, and there is some where a count is above 0
pub record IsBehind (setting : Setting) (at_arrivals replayed : State) (late : Late) (behind : List Sent) : Type 0 where
  pub same : bare_state at_arrivals ≡ bare_state replayed
  pub refused : (first : Sent) (more : List Sent) → behind ≡ first ∷ more → is_running at_arrivals.ending ≡ true → is_refused setting at_arrivals first.1.message first.1.stamp ≡ true
  pub nothing : some_late late ≡ false → behind ≡ []
  pub no_count : is_running at_arrivals.ending ≡ true → behind ≡ [] → some_late late ≡ false

pub record Ends (setting : Setting) (at_arrivals replayed : State) (late : Late) (behind : List Sent) : Type 0 where
  pub live : (settled replayed late).live ≡ (after_all setting at_arrivals behind).live
  pub ending : (settled replayed late).ending ≡ (after_all setting at_arrivals behind).ending

module _ (setting : Setting) (at_arrivals replayed : State) (late : Late) (behind : List Sent) (h : IsBehind setting at_arrivals replayed late behind) where
  abbrev at_last : State
  at_last = after_all setting at_arrivals behind

  -- nothing but late counts changed behind the arrivals
  keeps_on : (is_running replayed.ending && some_late late) ≡ false → at_last.live ≡ at_arrivals.live → at_last.ending ≡ at_arrivals.ending → Ends setting at_arrivals replayed late behind
  keeps_on e live ends =
      let is = settled_as replayed late false e in
      record {
        live = ap (λ (s : State). s.live) is ∙ sym (ap (λ (s : State). s.live) h.same) ∙ sym live;
        ending = ap (λ (s : State). s.ending) is ∙ sym (ap (λ (s : State). s.ending) h.same) ∙ sym ends;
      }

  spends : (first : Sent) (more : List Sent) → behind ≡ first ∷ more → is_running at_arrivals.ending ≡ true → (b : Bool) → some_late late ≡ b → Ends setting at_arrivals replayed late behind
  spends first more is running false e = let clash : first ∷ more ≡ [] = sym is ∙ h.nothing e in absurd cc
  spends first more is running true e =
      let o = spent_on setting first more at_arrivals running (h.refused first more is running) in
      let last : at_last ≡ after_all setting at_arrivals (first ∷ more) = ap (after_all setting at_arrivals) is in
      let both : (is_running replayed.ending && some_late late) ≡ true = λ i. (sym (ap (λ (s : State). is_running s.ending) h.same) ∙ running) i && e i in
      let spent = settled_as replayed late true both in
      record {
        live = ap (λ (s : State). s.live) spent ∙ sym o.live ∙ sym (ap (λ (s : State). s.live) last);
        ending = ap (λ (s : State). s.ending) spent ∙ sym o.ending ∙ sym (ap (λ (s : State). s.ending) last);
      }

  runs : is_running at_arrivals.ending ≡ true → (xs : List Sent) → behind ≡ xs → Ends setting at_arrivals replayed late behind
  runs running [] none =
      let last : at_last ≡ at_arrivals = ap (after_all setting at_arrivals) none in
      keeps_on (and_right (is_running replayed.ending) (some_late late) (h.no_count running none)) (ap (λ (s : State). s.live) last) (ap (λ (s : State). s.ending) last)
  runs running (first ∷ more) is = spends first more is running (some_late late) refl

  by_running : (b : Bool) → is_running at_arrivals.ending ≡ b → Ends setting at_arrivals replayed late behind
  by_running false e =
      let o = ended setting behind at_arrivals e in
      let stopped : is_running replayed.ending ≡ false = sym (ap (λ (s : State). is_running s.ending) h.same) ∙ e in
      keeps_on (and_left (is_running replayed.ending) (some_late late) stopped) o.live o.ending
  by_running true e = runs e behind refl

  pub ends_behind : Ends setting at_arrivals replayed late behind
  ends_behind = by_running (is_running at_arrivals.ending) refl
