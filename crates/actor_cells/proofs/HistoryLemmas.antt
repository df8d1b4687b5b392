-- A history in which each message carries the stamp of its post, with one message more; and without its stamps.
use Rattle.std.proofs.Common.{◌≡◌, ◌∙◌, List, [], ◌∷◌, ◌++◌, map, Bool, true, false, None, Some, refl, ap, sym, subst, append_assoc}
use Rattle.std.specs.Prelude.{if◌then◌else◌, not, ◌&&◌, ℕ}
use Rattle.std.specs.List.{cons_option}
use Rattle.std.proofs.lemmas.Bool.{not-false}
use Rattle.std.proofs.lemmas.List.{append-nil, map-append}
use Rattle.std.proofs.lemmas.List.Elements.{filter_map-append}
use mathlib.Core.List.{IsPrefix}
use Rattle.join_base.specs.declared.message.Message.{Message}
use Rattle.join_base.specs.declared.message.Source.{Source}
use Rattle.join_base.specs.declared.message.Stamped.{Stamped}
use Rattle.fair_semantics.specs.declared.run.Ending.TheVariants as ending
use Rattle.fair_semantics.specs.declared.run.Entry.{Entry}
use Rattle.fair_semantics.specs.Step.{Setting, State, entry_with, is_refused, is_running, opening}
use Rattle.fair_semantics.specs.Fair.{Sent, after_all}
use Rattle.fair_semantics.specs.Linked.{arrived, arrived_after, same_source}
use Rattle.fair_semantics.proofs.FairLemmas.{after_all-append}
use Rattle.fair_semantics.proofs.TakenLemmas.{arrival_of, late_is, next_of, records, spent_is}
use Rattle.run_order_law.proofs.EventLemmas.{if_from, sent_from}
use Rattle.schedule_law.proofs.BehindLemmas.{AreRecords, Split, arrived_are, behind_entries, left, none_behind, split}
use Rattle.actor_turn.specs.Held.{Held, History, as_sent, history_with, is_taken}
use Rattle.actor_turn.proofs.RestLemmas.{taken_fits, taken_runs}
use Rattle.actor_cells.specs.History.{bare, noted}
use Rattle.actor_cells.proofs.StateLemmas.{NoOthers, Stands, order, order_all}

-- ---- it goes on

pub history-on : (held : Held) (source : Source) (message : Message) (stamp : ℕ) (now : History) → now ≡ history_with held source message stamp → IsPrefix held.history now
history-on held source message stamp now is = by (is_taken held.setting held.state message stamp) is
  where
    by : (b : Bool) → now ≡ (if b then held.history ++ as_sent source message stamp ∷ [] else held.history) → IsPrefix held.history now
    by true e = (as_sent source message stamp ∷ [], sym e)
    by false e = ([], append-nil held.history ∙ sym e)

-- ---- each message carries the stamp of its post

records_more : (sent : List Sent) (entries : List Entry) (s : Sent) (e : Entry) → AreRecords sent entries → e.source ≡ s.0 → e.message ≡ s.1.message → AreRecords (sent ++ s ∷ []) (entries ++ e ∷ [])
records_more [] [] s e r source message = (source, message, tt)
records_more [] (f ∷ entries) s e r source message = absurd r
records_more (t ∷ sent) [] s e r source message = absurd r
records_more (t ∷ sent) (f ∷ entries) s e r source message = (r.0, r.1, records_more sent entries s e r.2 source message)

module _ (setting : Setting) (feeds actors : ℕ) (posts now : Source → List Stamped) (state : State) (stands : Stands setting feeds actors posts state) (none : NoOthers setting feeds actors posts) (source : Source) (post : Stamped)
    (more : (other : Source) → now other ≡ (if same_source source other then posts other ++ post ∷ [] else posts other)) where
  abbrev one : Sent
  one = (source, post)

  abbrev start : State
  start = opening feeds actors

  -- an order in which the messages came
  abbrev came : List Sent
  came = order setting feeds actors posts state.entries none stands.in_order

  all_came : (other : Source) → sent_from other came ≡ posts other
  all_came other = order_all setting feeds actors posts state.entries none stands.in_order other

  all_more : (other : Source) → sent_from other (came ++ one ∷ []) ≡ now other
  all_more other =
      filter_map-append (if_from other) came (one ∷ []) ∙ ap (λ (ps : List Stamped). ps ++ cons_option (if_from other one) []) (all_came other) ∙ by (same_source source other) ∙ sym (more other)
    where
      by : (b : Bool) → posts other ++ cons_option (if b then Some post else None) [] ≡ (if b then posts other ++ post ∷ [] else posts other)
      by true = refl
      by false = append-nil (posts other)

  -- those that were taken, and those behind them
  abbrev parts : Split setting start came
  parts = split setting came start

  abbrev at : State
  at = after_all setting start parts.taken

  state_is : state ≡ after_all setting at parts.behind
  state_is = stands.fair ∙ ap (after_all setting start) parts.whole ∙ after_all-append setting start parts.taken parts.behind

  recorded : AreRecords parts.taken state.entries
  recorded =
      let l = left setting start parts.taken parts.all in
      subst (AreRecords parts.taken) (sym (ap (λ (s : State). s.entries) state_is ∙ behind_entries setting at parts.behind parts.refuses ∙ l.are)) l.records

  arrived_so_far : arrived posts state.entries ≡ parts.taken
  arrived_so_far = arrived_are posts [] [] parts.taken state.entries tt recorded (λ other. (sent_from other parts.behind, sym (all_came other) ∙ ap (sent_from other) parts.whole ∙ filter_map-append (if_from other) parts.taken parts.behind))

  arrived_still : arrived now state.entries ≡ parts.taken
  arrived_still =
      let whole : came ++ one ∷ [] ≡ parts.taken ++ (parts.behind ++ one ∷ []) = ap (λ (xs : List Sent). xs ++ one ∷ []) parts.whole ∙ append_assoc parts.taken parts.behind (one ∷ []) in
      arrived_are now [] [] parts.taken state.entries tt recorded (λ other. (sent_from other (parts.behind ++ one ∷ []), sym (all_more other) ∙ ap (sent_from other) whole ∙ filter_map-append (if_from other) parts.taken (parts.behind ++ one ∷ [])))

  arrived_more : (entry : Entry) → entry.source ≡ source → entry.message ≡ post.message → state.ending ≡ ending.Running → arrived now (state.entries ++ entry ∷ []) ≡ parts.taken ++ one ∷ []
  arrived_more entry from message runs =
      let nothing : parts.behind ≡ [] = none_behind setting at parts.behind parts.refuses (ap (λ (s : State). s.ending) (sym state_is) ∙ runs) in
      let whole : came ≡ parts.taken = parts.whole ∙ ap (λ (xs : List Sent). parts.taken ++ xs) nothing ∙ append-nil parts.taken in
      arrived_are now [] [] (parts.taken ++ one ∷ []) (state.entries ++ entry ∷ []) tt (records_more parts.taken state.entries one entry recorded from message)
      (λ other. ([], sym (all_more other) ∙ ap (λ (xs : List Sent). sent_from other (xs ++ one ∷ [])) whole ∙ sym (append-nil (sent_from other (parts.taken ++ one ∷ [])))))

  -- a message that is not taken leaves no entry
  entries_stay : is_taken setting state post.message post.stamp ≡ false → (next_of setting state one).entries ≡ state.entries
  entries_stay away = by (is_running state.ending) refl
    where
      by : (b : Bool) → is_running state.ending ≡ b → (next_of setting state one).entries ≡ state.entries
      by false e = ap (λ (s : State). s.entries) (late_is setting state one e)
      by true e =
          let refused : is_refused setting state post.message post.stamp ≡ true = not-false (is_refused setting state post.message post.stamp) (ap (λ (b : Bool). b && not (is_refused setting state post.message post.stamp)) (sym e) ∙ away) in
          ap (λ (s : State). s.entries) (spent_is setting state one e refused)

  pub history-more : (before after : History) → before ≡ arrived posts state.entries → after ≡ (if is_taken setting state post.message post.stamp then before ++ one ∷ [] else before) → after ≡ arrived now (next_of setting state one).entries
  history-more before after was is = by (is_taken setting state post.message post.stamp) refl is
    where
      by : (b : Bool) → is_taken setting state post.message post.stamp ≡ b → after ≡ (if b then before ++ one ∷ [] else before) → after ≡ arrived now (next_of setting state one).entries
      by true taken e =
          let runs = taken_runs setting state post.message post.stamp taken in
          let r = records setting state one (ap is_running runs) (taken_fits setting state post.message post.stamp taken) in
          e ∙ ap (λ (h : History). h ++ one ∷ []) (was ∙ arrived_so_far) ∙ sym (arrived_more (entry_with (arrival_of state one) r.0) refl refl runs) ∙ ap (arrived now) (sym r.1.0)
      by false away e = e ∙ was ∙ arrived_so_far ∙ sym arrived_still ∙ ap (arrived now) (sym (entries_stay away))

-- ---- without stamps

bare_after : (posts : Source → List Stamped) (before entries : List Entry) → map bare (arrived_after posts before entries) ≡ map noted entries
bare_after posts before [] = refl
bare_after posts before (e ∷ entries) = ap (λ (rest : List (Source × Message)). noted e ∷ rest) (bare_after posts (before ++ e ∷ []) entries)

-- arrivals without their stamps are the entries
pub bare-arrived : (posts : Source → List Stamped) (entries : List Entry) → map bare (arrived posts entries) ≡ map noted entries
bare-arrived posts entries = bare_after posts [] entries

pub prefix-bare : (xs ys : List Sent) → IsPrefix xs ys → IsPrefix (map bare xs) (map bare ys)
prefix-bare xs ys p = (map bare p.0, sym (map-append bare xs p.0) ∙ ap (map bare) p.1)
