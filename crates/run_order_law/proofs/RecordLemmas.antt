-- Which entries the first of some messages leave, and that an entry's stamp is greater than the one before and than its
-- message's.
use Rattle.std.proofs.Common.{◌≡◌, ◌∙◌, ℕ, ◌<◌, List, [], ◌∷◌, ◌++◌, length, Bool, true, false, append_assoc, refl, ap, sym, arith}
use Rattle.std.proofs.lemmas.List.{append-nil, append_cancel_left}
use Rattle.pattern_core.specs.Choice.{choice}
use Rattle.fair_semantics.specs.declared.run.Entry.{Entry}
use Rattle.fair_semantics.specs.Step.{Arrival, Setting, State, arrival_step, definitions_of, entry_with, fair_step, is_refused, is_running, late_step, messages_with, live_with, running_step, spent_step, step_by}
use Rattle.fair_semantics.specs.Fair.{Sent, after_all}
use Rattle.fair_semantics.proofs.ChainLemmas.{Records, adds, arrival_of, keeps_ended, recorded_by}
use Rattle.fair_semantics.proofs.FairLemmas.{after_all-append}
use Rattle.run_order_law.proofs.ListLemmas.{nothing_more}

module _ (setting : Setting) where
  -- where a chain records an entry, its first step does
  abbrev First : State → Sent → List Sent → Entry → List Entry → State → Type 0
  First state s more e es next = (after_all setting next more).entries ≡ state.entries ++ e ∷ es → next.entries ≡ state.entries ++ e ∷ []

  one_recorded : (state : State) (s : Sent) (more : List Sent) (e : Entry) (es : List Entry) → First state s more e es (fair_step setting state s.0 s.1.message s.1.stamp).0
  one_recorded state s more e es = by (is_running state.ending) refl
    where
      recorded : First state s more e es (arrival_step setting (arrival_of state s)).0
      recorded final =
          let arrival : Arrival = arrival_of state s in
          let next : State = (arrival_step setting arrival).0 in
          let r = recorded_by setting arrival (choice (messages_with arrival) (live_with arrival) (definitions_of setting.rules)) in
          let a = adds setting more next in
          let both : state.entries ++ entry_with arrival r.0 ∷ a.new ≡ state.entries ++ e ∷ es = sym (a.entries_are ∙ ap (λ (xs : List Entry). xs ++ a.new) r.1 ∙ append_assoc state.entries (entry_with arrival r.0 ∷ []) a.new) ∙ final in
          let same : entry_with arrival r.0 ∷ a.new ≡ e ∷ es = append_cancel_left state.entries (entry_with arrival r.0 ∷ a.new) (e ∷ es) both in
          let first : entry_with arrival r.0 ≡ e = cc same in
          r.1 ∙ ap (λ (x : Entry). state.entries ++ x ∷ []) first

      running : (b : Bool) → First state s more e es (running_step b setting state s.0 s.1.message s.1.stamp).0
      running true final = absurd (nothing_more state.entries e es (sym (keeps_ended setting more (spent_step state s.0).0 refl) ∙ final))
      running false final = recorded final

      by : (b : Bool) → is_running state.ending ≡ b → First state s more e es (step_by b setting state s.0 s.1.message s.1.stamp).0
      by false ended final = absurd (nothing_more state.entries e es (sym (keeps_ended setting more (late_step state s.0).0 ended) ∙ final))
      by true running_is final = running (is_refused setting state s.1.message s.1.stamp) final

  -- where as many entries as messages are the first of all, these messages left them
  pub recorded_first : (xs ys : List Sent) (state : State) (es more : List Entry) → length es ≡ length xs → (after_all setting state (xs ++ ys)).entries ≡ state.entries ++ (es ++ more) → (after_all setting state xs).entries ≡ state.entries ++ es
  recorded_first [] ys state [] more count final = sym (append-nil state.entries)
  recorded_first [] ys state (e ∷ es) more count final = absurd (omega arith)
  recorded_first (x ∷ xs) ys state [] more count final = absurd (omega arith)
  recorded_first (x ∷ xs) ys state (e ∷ es) more count final =
      let next : State = (fair_step setting state x.0 x.1.message x.1.stamp).0 in
      let first : next.entries ≡ state.entries ++ e ∷ [] = one_recorded state x (xs ++ ys) e (es ++ more) final in
      let moved : state.entries ++ e ∷ (es ++ more) ≡ next.entries ++ (es ++ more) = sym (ap (λ (zs : List Entry). zs ++ (es ++ more)) first ∙ append_assoc state.entries (e ∷ []) (es ++ more)) in
      recorded_first xs ys next es more (omega arith) (final ∙ moved) ∙ ap (λ (zs : List Entry). zs ++ es) first ∙ append_assoc state.entries (e ∷ []) es

  none_of_none : (xs ys zs : List Entry) → (xs ++ ys) ++ zs ≡ xs → xs ++ ys ≡ xs
  none_of_none xs [] zs e = append-nil xs
  none_of_none xs (y ∷ ys) zs e = absurd (nothing_more xs y (ys ++ zs) (sym e ∙ append_assoc xs (y ∷ ys) zs))

  kept_between : (ys zs : List Sent) (state : State) → (after_all setting state (ys ++ zs)).entries ≡ state.entries → (after_all setting state ys).entries ≡ state.entries
  kept_between ys zs state final =
      let a = adds setting ys state in
      let b = adds setting zs (after_all setting state ys) in
      let whole : (state.entries ++ a.new) ++ b.new ≡ state.entries = ap (λ (es : List Entry). es ++ b.new) (sym a.entries_are) ∙ sym b.entries_are ∙ ap (λ (s : State). s.entries) (sym (after_all-append setting state ys zs)) ∙ final in
      a.entries_are ∙ none_of_none state.entries a.new b.new whole

  -- where all entries are there, further messages add none
  pub recorded_all : (xs ys zs : List Sent) (state : State) (es : List Entry) → length es ≡ length xs → (after_all setting state (xs ++ (ys ++ zs))).entries ≡ state.entries ++ es → (after_all setting state (xs ++ ys)).entries ≡ state.entries ++ es
  recorded_all xs ys zs state es count final =
      let all : state.entries ++ es ≡ state.entries ++ (es ++ []) = ap (λ (zs : List Entry). state.entries ++ zs) (sym (append-nil es)) in
      let first : (after_all setting state xs).entries ≡ state.entries ++ es = recorded_first xs (ys ++ zs) state es [] count (final ∙ all) in
      let whole : (after_all setting (after_all setting state xs) (ys ++ zs)).entries ≡ (after_all setting state xs).entries = ap (λ (s : State). s.entries) (sym (after_all-append setting state xs (ys ++ zs))) ∙ final ∙ sym first in
      ap (λ (s : State). s.entries) (after_all-append setting state xs ys) ∙ kept_between ys zs (after_all setting state xs) whole ∙ first

-- an entry's stamp is greater than the one that its message carried
pub stamp_above : (latest : ℕ) (xs : List Sent) (x : Sent) (ys : List Sent) (es : List Entry) (e : Entry) (more : List Entry) → length es ≡ length xs → Records latest (xs ++ x ∷ ys) (es ++ e ∷ more) → x.1.stamp < e.stamp
stamp_above latest [] x ys [] e more count r = omega (arith, r.0.stamp)
stamp_above latest [] x ys (f ∷ es) e more count r = absurd (omega arith)
stamp_above latest (y ∷ xs) x ys [] e more count r = absurd (omega arith)
stamp_above latest (y ∷ xs) x ys (f ∷ es) e more count r = stamp_above f.stamp xs x ys es e more (omega arith) r.1

-- the stamps rise, and the first is greater than this one
abbrev pub AreRising : ℕ → List Entry → Type 0
AreRising latest [] = Unit {0}
AreRising latest (e ∷ es) = (latest < e.stamp) × AreRising e.stamp es

pub are_rising : (latest : ℕ) (sent : List Sent) (es : List Entry) → Records latest sent es → AreRising latest es
are_rising latest sent [] r = tt
are_rising latest [] (e ∷ es) r = absurd r
are_rising latest (s ∷ sent) (e ∷ es) r = (omega (arith, r.0.stamp), are_rising e.stamp sent es r.1)
