-- An actor ends as spent by a message that it may not take. In a linked run of feeds that fit, that is one beyond its
-- limit of arrivals.
use Rattle.std.proofs.Common.{◌≡◌, ◌∙◌, ◌⊎◌, inl, inr, ℕ, ◌≤◌, max, List, [], ◌∷◌, length, map, Bool, true, false, Option, None, Some, slice_get, refl, ap, sym, subst, arith}
use Rattle.std.specs.Prelude.{if◌then◌else◌, nat_le, nat_lt, not, ◌||◌}
use Rattle.std.specs.List.{AllByRecursion}
use Rattle.std.proofs.lemmas.Bool.Decides.{nat_tests}
use Rattle.join_base.specs.Stamps.{greatest_stamp}
use Rattle.join_base.specs.Taken.{without}
use Rattle.join_base.specs.declared.message.Message.{Message}
use Rattle.join_base.specs.declared.message.Stamped.{Stamped}
use Rattle.join_base.specs.declared.message.Source.{Source}
use Rattle.pattern_core.specs.declared.candidate.Candidate.{Candidate}
use Rattle.pattern_core.specs.Choice.{choice}
use Rattle.pattern_core.specs.Matches.{partial_count}
use Rattle.script_types.specs.declared.plan.Plan.{Plan}
use Rattle.script_types.specs.Typed.{kind_types}
use Rattle.fair_semantics.specs.declared.run.ActorRun.{ActorRun}
use Rattle.fair_semantics.specs.declared.run.Ending.TheVariants as ending
use Rattle.fair_semantics.specs.declared.run.Firing.{Firing}
use Rattle.fair_semantics.specs.declared.run.Outcome.TheVariants as outcome
use Rattle.fair_semantics.specs.declared.run.Run.{Run}
use Rattle.fair_semantics.specs.Body.{stops}
use Rattle.fair_semantics.specs.Fair.{Sent, after_all, setting_of}
use Rattle.fair_semantics.specs.Fits.{PostFits}
use Rattle.fair_semantics.specs.Linked.{count_of, posts_of, rest_of, rests_in_order, sources, IsLinked}
use Rattle.fair_semantics.specs.Step.{Arrival, Setting, State, Stepped, body_at, by_choice, definitions_of, firing_of, fits, is_refused, is_running, latest_stamp, messages_with, live_with, opening, recorded}
use Rattle.fair_semantics.proofs.RestLemmas.{each_in_order, each_of_all, none_in}
use Rattle.fair_semantics.proofs.TakenLemmas.{Taken, arrival_is, arrival_of, ended, next_of}
use Rattle.log_replay.proofs.ActorLemmas.{after, before, before_count, came, few, rest, shown, start, taken}
use Rattle.log_replay.proofs.BoundLemmas.{full}
use Rattle.log_replay.proofs.ExpectedLemmas.{none_at, running_is}
use Rattle.run_laws.specs.Spent.{IsFull, MayNotTake, MeetsOne, SpentHasCause, SpentIsFull}

at_least : (n m : ℕ) → nat_le n m ≡ true → n ≤ m
at_least n m e = grind (arith, nat_tests)

not_true : (b : Bool) → not b ≡ true → b ≡ false
not_true true e = absurd cc
not_true false e = refl

one_of_three : (a b c : Bool) → (a || (b || c)) ≡ true → (a ≡ true) ⊎ ((b ≡ true) ⊎ (c ≡ true))
one_of_three true b c e = inl refl
one_of_three false true c e = inr (inl refl)
one_of_three false false c e = inr (inr e)

-- ---- an arrival that is recorded does not spend

abbrev IsUnspent : State → Type 0
IsUnspent state = state.ending ≡ ending.Spent → ⊥

module _ (setting : Setting) where
  choice_unspent : (arrival : Arrival) (o : Option Candidate) → IsUnspent (by_choice setting arrival o).0
  choice_unspent arrival None = by (nat_lt setting.limits.partials (partial_count (messages_with arrival) (live_with arrival) (definitions_of setting.rules)))
    where
      by : (b : Bool) → let stepped : Stepped = if b then (recorded arrival None [] ending.Jammed, outcome.Jammed) else (recorded arrival None (live_with arrival) ending.Running, outcome.Kept) in IsUnspent stepped.0
      by true e = absurd cc
      by false e = absurd cc
  choice_unspent arrival (Some c) = by (stops (body_at setting.rules c.rule)) (firing_of setting.rules (messages_with arrival) (Some c))
    where
      by : (b : Bool) (firing : Option Firing) → IsUnspent (if b then recorded arrival firing [] ending.Stopped else recorded arrival firing (without (live_with arrival) c.taken) ending.Running)
      by true firing e = absurd cc
      by false firing e = absurd cc

  next_unspent : (state : State) (s : Sent) → is_running state.ending ≡ true → is_refused setting state s.1.message s.1.stamp ≡ false → IsUnspent (next_of setting state s)
  next_unspent state s running r =
      let arrival : Arrival = arrival_of state s in
      subst IsUnspent (sym (arrival_is setting state s running r)) (choice_unspent arrival (choice (messages_with arrival) (live_with arrival) (definitions_of setting.rules)))

  -- a chain that records each message
  taken_unspent : (sent : List Sent) (state : State) → Taken setting state sent → IsUnspent state → IsUnspent (after_all setting state sent)
  taken_unspent [] state t unspent = unspent
  taken_unspent (s ∷ sent) state t unspent = taken_unspent sent (next_of setting state s) t.1.1 (next_unspent state s t.0 t.1.0)

  -- ---- whatever the messages

  cause_of : (state : State) (s : Sent) → is_refused setting state s.1.message s.1.stamp ≡ true → MayNotTake setting state s
  cause_of state s e =
      elim (one_of_three (nat_le setting.limits.arrivals (length state.entries)) (not (fits setting.sorts s.1.message)) (nat_le greatest_stamp (max (latest_stamp state.entries) s.1.stamp)) e) [
        | inl a ↦ inl (at_least setting.limits.arrivals (length state.entries) a)
        | inr more ↦ elim more [
          | inl b ↦ inr (inl (not_true (fits setting.sorts s.1.message) b))
          | inr c ↦ inr (inr (at_least greatest_stamp (max (latest_stamp state.entries) s.1.stamp) c))
        ]
      ]

  one_more : (s : Sent) (sent : List Sent) (state : State) → MeetsOne setting (next_of setting state s) sent → MeetsOne setting state (s ∷ sent)
  one_more s sent state h = record { front = s ∷ h.front; next = h.next; behind = h.behind; parts = ap (λ (xs : List Sent). s ∷ xs) h.parts; runs = h.runs; cause = h.cause }

  meets_first : (s : Sent) (sent : List Sent) (state : State) → state.ending ≡ ending.Running → (after_all setting state (s ∷ sent)).ending ≡ ending.Spent
      → ((next : State) → next.ending ≡ ending.Running → (after_all setting next sent).ending ≡ ending.Spent → MeetsOne setting next sent) → MeetsOne setting state (s ∷ sent)
  meets_first s sent state runs spent later = by (is_refused setting state s.1.message s.1.stamp) refl
    where
      running : is_running state.ending ≡ true
      running = ap is_running runs

      next : State
      next = next_of setting state s

      going : is_refused setting state s.1.message s.1.stamp ≡ false → (b : Bool) → is_running next.ending ≡ b → MeetsOne setting state (s ∷ sent)
      going r true e = one_more s sent state (later next (running_is next.ending e) spent)
      going r false e = absurd (next_unspent state s running r (sym (ended setting sent next e).ending ∙ spent))

      by : (b : Bool) → is_refused setting state s.1.message s.1.stamp ≡ b → MeetsOne setting state (s ∷ sent)
      by true r = record { front = []; next = s; behind = sent; parts = refl; runs = runs; cause = cause_of state s r }
      by false r = going r (is_running next.ending) refl

  meets_one : (sent : List Sent) (state : State) → state.ending ≡ ending.Running → (after_all setting state sent).ending ≡ ending.Spent → MeetsOne setting state sent
  meets_one [] state runs spent = let clash : true ≡ false = sym (ap is_running runs) ∙ ap is_running spent in absurd cc
  meets_one (s ∷ sent) state runs spent = meets_first s sent state runs spent (meets_one sent)

pub spent_has_cause : SpentHasCause
spent_has_cause plan actor limits feeds sent spent = meets_one (setting_of plan actor limits) sent (opening feeds (length plan.actors)) refl spent

-- ---- in a linked run

module _ (plan : Plan) (feeds : List (List (ℕ × Message))) (run : Run) (linked : IsLinked plan run.limits feeds run) (few_actors : length plan.actors ≤ 32) (fit : AllByRecursion (AllByRecursion (PostFits plan)) feeds) where
  module _ (actor : ℕ) (own : ActorRun) (there : slice_get run.actors actor ≡ Some own) where
    abbrev setting : Setting
    setting = setting_of plan actor run.limits

    abbrev posts : Source → List Stamped
    posts source = posts_of feeds run.actors source actor

    abbrev behind : List Sent
    behind = rest plan feeds run linked actor own there

    abbrev at_arrivals : State
    at_arrivals = before plan feeds run linked actor own there

    -- where no message was late, nothing is behind the arrivals
    none_behind : own.late ≡ [] → behind ≡ []
    none_behind none =
        let rests : List (List Sent) = map (rest_of posts own.entries) (sources run.feeds (length plan.actors)) in
        let Empty : List Sent → Type 0 = λ (xs : List Sent). xs ≡ [] in
        let each = each_of_all Empty (rest_of posts own.entries) (sources run.feeds (length plan.actors)) (λ source c.
        none_at (rest_of posts own.entries source) (sym ((linked.each actor own there).late source c) ∙ ap (count_of source) none)) in
        none_in (rests_in_order (kind_types plan.kinds) rests) (each_in_order Empty (kind_types plan.kinds) rests each)

    module _ (spent : own.ending ≡ ending.Spent) where
      at_last : (after plan feeds run linked actor own there).ending ≡ ending.Spent
      at_last = sym (shown plan feeds run linked actor own there).ending ∙ spent

      behind_running : is_running at_arrivals.ending ≡ true → (xs : List Sent) → behind ≡ xs → IsFull run.limits own
      behind_running running [] none =
          let last : (after plan feeds run linked actor own there).ending ≡ at_arrivals.ending = ap (λ (xs : List Sent). (after_all setting at_arrivals xs).ending) none in
          let clash : true ≡ false = sym running ∙ ap is_running (sym last ∙ at_last) in
          absurd cc
      behind_running running (first ∷ more) is =
          let all = at_least run.limits.arrivals (length at_arrivals.entries) (full plan feeds run linked few_actors fit actor own there first more is running).0 in
          let most = few plan feeds run linked actor own there in
          let count = before_count plan feeds run linked actor own there in record {
            all = omega (arith, all, most, count);
            further = λ none. let clash : first ∷ more ≡ [] = sym is ∙ none_behind none in absurd cc;
          }

      by_running : (b : Bool) → is_running at_arrivals.ending ≡ b → IsFull run.limits own
      by_running true e = behind_running e behind refl
      by_running false e =
          let o = ended setting behind at_arrivals e in
          let unspent = taken_unspent setting (came plan feeds run linked actor own there) (start plan feeds run linked) (taken plan feeds run linked actor own there) (λ p. absurd cc) in
          absurd (unspent (sym o.ending ∙ at_last))

      pub spent_full : IsFull run.limits own
      spent_full = by_running (is_running at_arrivals.ending) refl

pub spent_is_full : SpentIsFull
spent_is_full plan limits feeds run typed fit linked actor own there spent =
    subst (λ l. IsFull l own) linked.same_limits
    (spent_full plan feeds run (subst (λ l. IsLinked plan l feeds run) (sym linked.same_limits) linked) typed.few_actors fit actor own there spent)
