-- A fair step keeps that no match waits and that each firing took the newest number, whatever the message is.
use Rattle.std.proofs.Common.{◌≡◌, ℕ, ◌+◌, List, [], ◌∷◌, ◌++◌, Bool, true, false, Option, None, Some, refl, ap, sym, subst, arith}
use Rattle.std.specs.Prelude.{All, if◌then◌else◌, nat_lt, not}
use Rattle.std.specs.List.{AllByRecursion}
use Rattle.std.proofs.lemmas.List.{length-map, map-append}
use Rattle.std.proofs.lemmas.List.Elements.{All-push, All-filter}
use Rattle.join_base.specs.Taken.{contains_number, without}
use Rattle.join_base.specs.declared.message.Message.{Message}
use Rattle.pattern_core.specs.declared.candidate.Candidate.{Candidate}
use Rattle.pattern_core.specs.declared.definition.Definition.{Definition}
use Rattle.pattern_core.specs.Choice.{choice}
use Rattle.pattern_core.specs.Matches.{partial_count}
use Rattle.pattern_core.specs.Members.{IsIn}
use Rattle.pattern_core.specs.Suits.{IsRecorded}
use Rattle.pattern_core.proofs.SuitsLemmas.{recorded_of}
use Rattle.match_tree.proofs.RowsLemmas.{one_of_in}
use Rattle.tree_law.specs.Partials.{AreLive, number_more}
use Rattle.script_types.specs.declared.plan.Rule.{Rule}
use Rattle.fair_semantics.specs.declared.run.Ending.{Ending}
use Rattle.fair_semantics.specs.declared.run.Ending.TheVariants as ending
use Rattle.fair_semantics.specs.declared.run.Entry.{Entry}
use Rattle.fair_semantics.specs.declared.run.Firing.{Firing}
use Rattle.fair_semantics.specs.declared.run.Outcome.TheVariants as outcome
use Rattle.fair_semantics.specs.Body.{stops}
use Rattle.fair_semantics.specs.Fair.{Sent, after_all}
use Rattle.fair_semantics.specs.Step.{Arrival, Setting, State, Stepped, body_at, by_choice, definitions_of, entry_with, fair_step, firing_of, is_refused, is_running, recorded_messages, messages_with, live_with, number_of, opening, recorded, running_step, step_by}
use Rattle.fair_semantics.proofs.ChainLemmas.{arrival_of}
use Rattle.fair_semantics.proofs.ListLemmas.{each_append}
use Rattle.fair_semantics.proofs.StepLemmas.{number_of_newest}
use Rattle.run_fit_law.specs.RestLaw.{TakesNewest}
use Rattle.run_fit_law.proofs.RestLemmas.{CanRest, IsResting, cleared_rests, fired_rests, none_chosen, takes_newest}

-- between two arrivals: the live numbers are recorded, no match waits among them, and each firing took the newest
-- number
pub record IsStill (rules : List Rule) (state : State) : Type 0 where
  pub recorded : All (IsRecorded (recorded_messages state.entries)) state.live
  pub rests : AllByRecursion (IsResting (recorded_messages state.entries) state.live) (definitions_of rules)
  pub newest : AllByRecursion TakesNewest state.entries

pub no_number : (messages : List Message) → All (IsRecorded messages) []
no_number messages k d l = absurd (omega arith)

-- what holds of an arrival at such a state
module _ (rules : List Rule) (arrival : Arrival) (h : IsStill rules arrival.state) where
  abbrev messages : List Message
  messages = recorded_messages arrival.state.entries

  pub newest_number : number_of arrival ≡ number_more messages
  newest_number = ap (λ (n : ℕ). n + 1) (sym (length-map arrival.state.entries (λ (e : Entry). e.message)))

  pub recorded_with : All (IsRecorded (messages_with arrival)) (live_with arrival)
  recorded_with =
      let count = number_of_newest arrival.state.entries arrival.message in
      All-push (IsRecorded (messages_with arrival)) arrival.state.live (number_of arrival) (λ i d l. let old = h.recorded i d l in (old.0, omega (arith, old.1, count, newest_number))) (omega arith, omega (arith, count))

  pub are_live : AreLive messages arrival.state.live
  are_live n m = recorded_of messages arrival.state.live n h.recorded m

  pub chosen_newest : (c : Candidate) → choice (messages_with arrival) (live_with arrival) (definitions_of rules) ≡ Some c → contains_number c.taken (number_more messages) ≡ true
  chosen_newest c some =
      takes_newest messages arrival.message arrival.state.live are_live (definitions_of rules) c h.rests
      (subst (λ (n : ℕ). choice (messages_with arrival) (arrival.state.live ++ n ∷ []) (definitions_of rules) ≡ Some c) newest_number some)

module _ (setting : Setting) where
  abbrev definitions : List Definition
  definitions = definitions_of setting.rules

  abbrev Still : State → Type 0
  Still = IsStill setting.rules

  module _ (can : AllByRecursion CanRest definitions) where
    pub opening_still : (feeds actors : ℕ) → Still (opening feeds actors)
    opening_still feeds actors = record { recorded = no_number []; rests = cleared_rests [] definitions can; newest = tt }

    module _ (arrival : Arrival) (h : Still arrival.state) where
      -- the state with an entry more
      recorded_still : (firing : Option Firing) (live : List ℕ) (end : Ending) → TakesNewest (entry_with arrival firing) → All (IsRecorded (messages_with arrival)) live
          → AllByRecursion (IsResting (messages_with arrival) live) definitions → Still (recorded arrival firing live end)
      recorded_still firing live end takes are_recorded rests =
          let same : messages_with arrival ≡ recorded_messages (arrival.state.entries ++ entry_with arrival firing ∷ []) = sym (map-append (λ (e : Entry). e.message) arrival.state.entries (entry_with arrival firing ∷ [])) in record {
            recorded = subst (λ (ms : List Message). All (IsRecorded ms) live) same are_recorded;
            rests = subst (λ (ms : List Message). AllByRecursion (IsResting ms live) definitions) same rests;
            newest = each_append TakesNewest arrival.state.entries (entry_with arrival firing ∷ []) h.newest (takes, tt);
          }

      ended_still : (firing : Option Firing) (end : Ending) → TakesNewest (entry_with arrival firing) → Still (recorded arrival firing [] end)
      ended_still firing end takes = recorded_still firing [] end takes (no_number (messages_with arrival)) (cleared_rests (messages_with arrival) definitions can)

      kept_still : choice (messages_with arrival) (live_with arrival) definitions ≡ None → Still (by_choice setting arrival None).0
      kept_still none = by (nat_lt setting.limits.partials (partial_count (messages_with arrival) (live_with arrival) definitions))
        where
          by : (b : Bool) → let stepped : Stepped = if b then (recorded arrival None [] ending.Jammed, outcome.Jammed) else (recorded arrival None (live_with arrival) ending.Running, outcome.Kept) in Still stepped.0
          by true = ended_still None ending.Jammed tt
          by false =
              recorded_still None (live_with arrival) ending.Running tt (recorded_with setting.rules arrival h)
              (none_chosen (messages_with arrival) (live_with arrival) definitions none can)

      fired_still : (c : Candidate) → choice (messages_with arrival) (live_with arrival) definitions ≡ Some c → Still (by_choice setting arrival (Some c)).0
      fired_still c some = by (stops (body_at setting.rules c.rule))
        where
          firing : Option Firing
          firing = firing_of setting.rules (messages_with arrival) (Some c)

          before : List Message
          before = recorded_messages arrival.state.entries

          same : number_of arrival ≡ number_more before
          same = newest_number setting.rules arrival h

          takes : contains_number c.taken (number_more before) ≡ true
          takes = chosen_newest setting.rules arrival h c some

          own : IsIn (number_of arrival) c.taken
          own = one_of_in c.taken (number_of arrival) (subst (λ (n : ℕ). contains_number c.taken n ≡ true) (sym same) takes)

          rests : AllByRecursion (IsResting (messages_with arrival) (without (live_with arrival) c.taken)) definitions
          rests =
              subst (λ (n : ℕ). AllByRecursion (IsResting (messages_with arrival) (without (arrival.state.live ++ n ∷ []) c.taken)) definitions) (sym same)
              (fired_rests before arrival.message arrival.state.live (are_live setting.rules arrival h) c.taken takes definitions h.rests)

          by : (b : Bool) → Still (if b then recorded arrival firing [] ending.Stopped else recorded arrival firing (without (live_with arrival) c.taken) ending.Running)
          by true = ended_still firing ending.Stopped own
          by false =
              recorded_still firing (without (live_with arrival) c.taken) ending.Running own
              (All-filter (λ (n : ℕ). not (contains_number c.taken n)) (IsRecorded (messages_with arrival)) (live_with arrival) (recorded_with setting.rules arrival h)) rests

      chosen_still : (o : Option Candidate) → choice (messages_with arrival) (live_with arrival) definitions ≡ o → Still (by_choice setting arrival o).0
      chosen_still None e = kept_still e
      chosen_still (Some c) e = fired_still c e

    pub step_still : (state : State) (sent : Sent) → Still state → Still (fair_step setting state sent.0 sent.1.message sent.1.stamp).0
    step_still state sent h = by (is_running state.ending)
      where
        arrival : Arrival
        arrival = arrival_of state sent

        running : (b : Bool) → Still (running_step b setting state sent.0 sent.1.message sent.1.stamp).0
        running true = record { recorded = no_number (recorded_messages state.entries); rests = cleared_rests (recorded_messages state.entries) definitions can; newest = h.newest }
        running false = chosen_still arrival h (choice (messages_with arrival) (live_with arrival) definitions) refl

        by : (b : Bool) → Still (step_by b setting state sent.0 sent.1.message sent.1.stamp).0
        by false = record { recorded = h.recorded; rests = h.rests; newest = h.newest }
        by true = running (is_refused setting state sent.1.message sent.1.stamp)

    pub all_still : (sent : List Sent) (state : State) → Still state → Still (after_all setting state sent)
    all_still [] state h = h
    all_still (s ∷ sent) state h = all_still sent (fair_step setting state s.0 s.1.message s.1.stamp).0 (step_still state s h)
