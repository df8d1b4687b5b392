-- A fair step keeps that each arrival was taken at most once and by none before it, and that no live one was taken.
use Rattle.std.proofs.Common.{◌≡◌, ◌⊎◌, inl, inr, ℕ, zero, suc, ◌+◌, ◌<◌, ◌≤◌, List, [], ◌∷◌, ◌++◌, length, length-append, slice_get, Bool, true, false, Option, None, Some, refl, ap, subst, arith}
use Rattle.std.specs.Prelude.{◌==◌, if◌then◌else◌, nat_lt}
use Rattle.std.specs.List.{AllByRecursion}
use Rattle.std.proofs.lemmas.Bool.Decides.{nat_tests}
use Rattle.join_base.specs.Taken.{without}
use Rattle.pattern_core.specs.declared.candidate.Candidate.{Candidate}
use Rattle.pattern_core.specs.Choice.{choice}
use Rattle.pattern_core.specs.Matches.{partial_count}
use Rattle.pattern_core.proofs.LawLemmas.{choice_is_chosen}
use Rattle.script_types.specs.Typed.{IsTypedRule, Sorts}
use Rattle.fair_semantics.specs.declared.run.Ending.{Ending}
use Rattle.fair_semantics.specs.declared.run.Ending.TheVariants as ending
use Rattle.fair_semantics.specs.declared.run.Entry.{Entry}
use Rattle.fair_semantics.specs.declared.run.Firing.{Firing}
use Rattle.fair_semantics.specs.declared.run.Outcome.TheVariants as outcome
use Rattle.fair_semantics.specs.Body.{stops}
use Rattle.fair_semantics.specs.Fair.{Sent, after_all}
use Rattle.fair_semantics.specs.Step.{Arrival, Setting, State, Stepped, body_at, by_choice, definitions_of, entry_with, fair_step, firing_of, is_refused, is_running, messages_with, live_with, number_of, opening, recorded, running_step, step_by}
use Rattle.fair_semantics.proofs.ChainLemmas.{arrival_of}
use Rattle.fair_semantics.proofs.ListLemmas.{each_append}
use Rattle.run_laws.specs.Replies.{one_where, replies_of, taken_by, taken_in, times}
use Rattle.run_laws.proofs.FiredLemmas.{FiresOnce, fires_once}
use Rattle.run_laws.proofs.TimesLemmas.{times-append, times_left}

-- a firing replies only to what it took, and to each at most as often
abbrev pub RepliesAmong : Entry → Type 0
RepliesAmong entry = (n : ℕ) → times n (replies_of entry.firing) ≤ times n (taken_by entry.firing)

-- no entry takes an arrival behind its own
abbrev pub TakesBack : List Entry → Type 0
TakesBack entries = (place : ℕ) (entry : Entry) (n : ℕ) → slice_get entries place ≡ Some entry → place + 1 < n → times n (taken_by entry.firing) ≡ 0

-- each number was taken, or is live, at most once, and a number beyond the arrivals neither
pub record IsOnce (state : State) : Type 0 where
  pub once : (n : ℕ) → times n (taken_in state.entries) + times n state.live ≤ 1
  pub fresh : (n : ℕ) → length state.entries < n → times n (taken_in state.entries) + times n state.live ≡ 0
  pub replies : AllByRecursion RepliesAmong state.entries
  pub back : TakesBack state.entries

taken_more : (n : ℕ) (entries : List Entry) (entry : Entry) → times n (taken_in (entries ++ entry ∷ [])) ≡ times n (taken_in entries) + times n (taken_by entry.firing)
taken_more n [] entry = let last = times-append n (taken_by entry.firing) [] in omega arith
taken_more n (e ∷ entries) entry =
    let whole = times-append n (taken_by e.firing) (taken_in (entries ++ entry ∷ [])) in
    let before = times-append n (taken_by e.firing) (taken_in entries) in
    let later = taken_more n entries entry in
    omega arith

not_itself : (n m : ℕ) → m < n → (n == m) ≡ false
not_itself n m l = grind (arith, nat_tests)

same_number : (n m : ℕ) → (n == m) ≡ true → n ≡ m
same_number n m e = grind (arith, nat_tests)

pub opening_once : (feeds actors : ℕ) → IsOnce (opening feeds actors)
opening_once feeds actors = record { once = λ n. omega arith; fresh = λ n l. refl; replies = tt; back = λ place entry n there l. let none : None ≡ Some entry = there in absurd cc }

-- what stands in a list with one more stood there before, or is that one
one_more_at : {X : Type 0} (xs : List X) (y x : X) (k : ℕ) → slice_get (xs ++ y ∷ []) k ≡ Some x → (slice_get xs k ≡ Some x) ⊎ ((k ≡ length xs) × (y ≡ x))
one_more_at [] y x zero e = inr (refl, cc)
one_more_at [] y x (suc k) e = absurd cc
one_more_at (z ∷ xs) y x zero e = inl e
one_more_at (z ∷ xs) y x (suc k) e = next (one_more_at xs y x k e)
  where
    next : (slice_get xs k ≡ Some x) ⊎ ((k ≡ length xs) × (y ≡ x)) → (slice_get (z ∷ xs) (suc k) ≡ Some x) ⊎ ((suc k ≡ length (z ∷ xs)) × (y ≡ x))
    next (inl h) = inl h
    next (inr (same, is)) = inr (ap suc same, is)

-- ---- an arrival

-- what a firing takes, and what is left, are among the live numbers with the new one
abbrev Takes : Arrival → Option Firing → List ℕ → Type 0
Takes arrival firing live = (n : ℕ) → times n (taken_by firing) + times n live ≤ times n (live_with arrival)

module _ (arrival : Arrival) (h : IsOnce arrival.state) where
  -- with the new number
  with_new : (n : ℕ) → times n (taken_in arrival.state.entries) + times n (live_with arrival) ≡ times n (taken_in arrival.state.entries) + times n arrival.state.live + one_where (n == number_of arrival)
  with_new n = let live = times-append n arrival.state.live (number_of arrival ∷ []) in omega arith

  once_with : (n : ℕ) → times n (taken_in arrival.state.entries) + times n (live_with arrival) ≤ 1
  once_with n = by (n == number_of arrival) refl
    where
      by : (b : Bool) → (n == number_of arrival) ≡ b → times n (taken_in arrival.state.entries) + times n (live_with arrival) ≤ 1
      by true e =
          let here : one_where (n == number_of arrival) ≡ 1 = ap one_where e in
          let same : n ≡ number_of arrival = same_number n (number_of arrival) e in
          let none = h.fresh n (omega arith) in
          omega (arith, here, none, with_new n)
      by false e =
          let here : one_where (n == number_of arrival) ≡ 0 = ap one_where e in
          omega (arith, here, h.once n, with_new n)

  none_beyond : (n : ℕ) → number_of arrival < n → times n (taken_in arrival.state.entries) + times n (live_with arrival) ≡ 0
  none_beyond n l =
      let here : one_where (n == number_of arrival) ≡ 0 = ap one_where (not_itself n (number_of arrival) l) in
      let none = h.fresh n (omega arith) in
      omega (arith, here, none, with_new n)

  recorded_once : (firing : Option Firing) (live : List ℕ) (end : Ending) → Takes arrival firing live → RepliesAmong (entry_with arrival firing) → IsOnce (recorded arrival firing live end)
  recorded_once firing live end takes replies =
      let entry : Entry = entry_with arrival firing in
      let count : length (arrival.state.entries ++ entry ∷ []) ≡ number_of arrival = length-append arrival.state.entries (entry ∷ []) in
      record {
        once = λ n. omega (arith, taken_more n arrival.state.entries entry, takes n, once_with n);
        fresh = λ n l. let beyond : number_of arrival < n = omega (arith, count, l) in omega (arith, taken_more n arrival.state.entries entry, takes n, none_beyond n beyond);
        replies = each_append RepliesAmong arrival.state.entries (entry ∷ []) h.replies (replies, tt);
        back = λ place e n there l. back place e n l (one_more_at arrival.state.entries entry e place there);
      }
    where
      back : (place : ℕ) (e : Entry) (n : ℕ) → place + 1 < n → (slice_get arrival.state.entries place ≡ Some e) ⊎ ((place ≡ length arrival.state.entries) × (entry_with arrival firing ≡ e)) → times n (taken_by e.firing) ≡ 0
      back place e n l (inl before) = h.back place e n before l
      back place e n l (inr (here, same)) =
          let beyond : number_of arrival < n = omega (arith, here, l) in
          let none : times n (taken_by firing) ≡ 0 = omega (arith, takes n, none_beyond n beyond) in
          subst (λ (x : Entry). times n (taken_by x.firing) ≡ 0) same none

module _ (setting : Setting) (actors : ℕ) (sorts : Sorts) (typed : AllByRecursion (IsTypedRule actors sorts) setting.rules) where
  module _ (arrival : Arrival) (h : IsOnce arrival.state) where
    kept_once : IsOnce (by_choice setting arrival None).0
    kept_once = by (nat_lt setting.limits.partials (partial_count (messages_with arrival) (live_with arrival) (definitions_of setting.rules)))
      where
        by : (b : Bool) → let stepped : Stepped = if b then (recorded arrival None [] ending.Jammed, outcome.Jammed) else (recorded arrival None (live_with arrival) ending.Running, outcome.Kept) in IsOnce stepped.0
        by true = recorded_once arrival h None [] ending.Jammed (λ n. omega arith) (λ n. omega arith)
        by false = recorded_once arrival h None (live_with arrival) ending.Running (λ n. omega arith) (λ n. omega arith)

    fired_once : (c : Candidate) → choice (messages_with arrival) (live_with arrival) (definitions_of setting.rules) ≡ Some c → IsOnce (by_choice setting arrival (Some c)).0
    fired_once c some = by (stops (body_at setting.rules c.rule))
      where
        firing : Option Firing
        firing = firing_of setting.rules (messages_with arrival) (Some c)

        fires : (n : ℕ) → FiresOnce (live_with arrival) firing n
        fires n = subst (λ (o : Option Candidate). FiresOnce (live_with arrival) (firing_of setting.rules (messages_with arrival) o) n) some
            (fires_once actors sorts setting.rules typed (messages_with arrival) (live_with arrival) (choice (messages_with arrival) (live_with arrival) (definitions_of setting.rules))
            (choice_is_chosen (messages_with arrival) (live_with arrival) (definitions_of setting.rules)) n)

        by : (b : Bool) → IsOnce (if b then recorded arrival firing [] ending.Stopped else recorded arrival firing (without (live_with arrival) c.taken) ending.Running)
        by true = recorded_once arrival h firing [] ending.Stopped (λ n. omega (arith, (fires n).among)) (λ n. (fires n).replies)
        by false = recorded_once arrival h firing (without (live_with arrival) c.taken) ending.Running (λ n. times_left n c.taken (live_with arrival) (fires n).among (fires n).once) (λ n. (fires n).replies)

    chosen_once : (o : Option Candidate) → choice (messages_with arrival) (live_with arrival) (definitions_of setting.rules) ≡ o → IsOnce (by_choice setting arrival o).0
    chosen_once None e = kept_once
    chosen_once (Some c) e = fired_once c e

  -- ---- a step, and a chain of them

  step_once : (state : State) (sent : Sent) → IsOnce state → IsOnce (fair_step setting state sent.0 sent.1.message sent.1.stamp).0
  step_once state sent h = by (is_running state.ending)
    where
      arrival : Arrival
      arrival = arrival_of state sent

      running : (b : Bool) → IsOnce (running_step b setting state sent.0 sent.1.message sent.1.stamp).0
      running true = record { once = λ n. omega (arith, h.once n); fresh = λ n l. omega (arith, h.fresh n l); replies = h.replies; back = h.back }
      running false = chosen_once arrival h (choice (messages_with arrival) (live_with arrival) (definitions_of setting.rules)) refl

      by : (b : Bool) → IsOnce (step_by b setting state sent.0 sent.1.message sent.1.stamp).0
      by false = record { once = h.once; fresh = h.fresh; replies = h.replies; back = h.back }
      by true = running (is_refused setting state sent.1.message sent.1.stamp)

  pub all_once : (sent : List Sent) (state : State) → IsOnce state → IsOnce (after_all setting state sent)
  all_once [] state h = h
  all_once (s ∷ sent) state h = all_once sent (fair_step setting state s.0 s.1.message s.1.stamp).0 (step_once state s h)
