-- Events of which each finds its post waiting are the steps of a schedule.
use Rattle.std.proofs.Common.{◌≡◌, ◌∙◌, ℕ, zero, suc, List, [], ◌∷◌, ◌++◌, length, map, drop, Bool, true, false, None, Some, append_assoc, refl, ap, sym, subst}
use Rattle.std.specs.Prelude.{if◌then◌else◌, ◌==◌, ◌&&◌}
use Rattle.std.specs.List.{cons_option, flat_map}
use Rattle.std.specs.Option.{option_and_then}
use Rattle.std.proofs.lemmas.List.{append-nil}
use Rattle.std.proofs.Math.Seq.{drop-append_seam}
use Rattle.std.proofs.lemmas.List.Elements.{filter_map-append}
use Rattle.std.proofs.lemmas.Grind.{flat_map-append}
use Rattle.join_base.specs.declared.message.Message.{Message}
use Rattle.join_base.specs.declared.message.Stamped.{Stamped}
use Rattle.join_base.specs.declared.message.Source.{Source}
use Rattle.join_base.specs.declared.message.Source.TheVariants.{Feed, Actor}
use Rattle.script_types.specs.declared.plan.Plan.{Plan}
use Rattle.fair_semantics.specs.declared.run.Limits.{Limits}
use Rattle.fair_semantics.specs.declared.run.Entry.{Entry}
use Rattle.fair_semantics.specs.Step.{Setting, State, fair_step}
use Rattle.fair_semantics.specs.Fair.{Sent, setting_of}
use Rattle.fair_semantics.specs.Linked.{entry_posts, same_source}
use Rattle.fair_semantics.specs.Schedule.{System, after_schedule, left_waiting, newly_waiting, posts_made, scheduled_step, state_after, taking}
use Rattle.fair_semantics.proofs.ChainLemmas.{adds}
use Rattle.fair_semantics.proofs.CountedLemmas.{same_number}
use Rattle.run_order_law.proofs.EventLemmas.{Begins, Event, IsSystemAt, Waits, begins_behind, if_from, made, moves, pair_of, same_source_is, same_source_swap, sent_from, sent_later, sent_to, state_at, stays}

-- what a step added to the entries stands behind those before
pub drop_added : (setting : Setting) (state : State) (sent : Sent) (target : ℕ) → flat_map (entry_posts target) (fair_step setting state sent.0 sent.1.message sent.1.stamp).0.entries ≡ flat_map (entry_posts target) state.entries ++ posts_made state (fair_step setting state sent.0 sent.1.message sent.1.stamp).0 target
drop_added setting state sent target =
    let a = adds setting (sent ∷ []) state in
    let posts = λ (xs : List Entry). flat_map (entry_posts target) xs in
    let added : drop (length state.entries) (fair_step setting state sent.0 sent.1.message sent.1.stamp).0.entries ≡ a.new = ap (drop (length state.entries)) a.entries_are ∙ drop-append_seam state.entries a.new in
    ap posts a.entries_are ∙ flat_map-append (entry_posts target) state.entries a.new ∙ ap (λ (xs : List Entry). posts state.entries ++ posts xs) (sym added)

module _ (plan : Plan) (limits : Limits) (feeds : List (List (ℕ × Message))) (before : List Event) (system : System) (at : IsSystemAt plan limits feeds before system) (event : Event) (rest : List Stamped) (waits : system.waiting event.1.0 event.0 ≡ event.1.1 ∷ rest) where
  abbrev actor : ℕ
  actor = event.0

  abbrev source : Source
  source = event.1.0

  abbrev after : State
  after = state_after plan limits system actor source event.1.1

  abbrev pub next : System
  next = record {
    state = λ other. if other == actor then after else system.state other;
    waiting = λ from target. left_waiting system actor source rest from target ++ newly_waiting system actor after from target;
  }

  pub step_is : scheduled_step plan limits system (pair_of event) ≡ Some next
  step_is = ap (λ (posts : List Stamped). taking plan limits system actor source posts) waits

  after_is : (other : ℕ) → (other == actor) ≡ true → after ≡ state_at plan limits feeds (before ++ event ∷ []) other
  after_is other e =
      let same : other ≡ actor = same_number other actor e in
      let here : after ≡ (fair_step (setting_of plan actor limits) (state_at plan limits feeds before actor) event.1.0 event.1.1.message event.1.1.stamp).0 = ap (λ (s : State). (fair_step (setting_of plan actor limits) s event.1.0 event.1.1.message event.1.1.stamp).0) (at.state actor) in
      here ∙ ap (λ (n : ℕ). (fair_step (setting_of plan n limits) (state_at plan limits feeds before n) event.1.0 event.1.1.message event.1.1.stamp).0) (sym same) ∙ sym (moves plan limits feeds before event other e)

  state_next : (other : ℕ) → next.state other ≡ state_at plan limits feeds (before ++ event ∷ []) other
  state_next other = by (other == actor) refl
    where
      by : (b : Bool) → (other == actor) ≡ b → (if b then after else system.state other) ≡ state_at plan limits feeds (before ++ event ∷ []) other
      by true e = after_is other e
      by false e = at.state other ∙ sym (stays plan limits feeds before event other e)

  -- what was given and what is left waiting are what was sent before
  abbrev Left : Source → ℕ → Type 0
  Left from target = sent_from from (sent_to target (before ++ event ∷ [])) ++ left_waiting system actor source rest from target ≡ made plan limits feeds before from target

  left_by : (from : Source) (target : ℕ) (b c : Bool) → same_source from source ≡ b → (target == actor) ≡ c
      → sent_from from (sent_to target before ++ cons_option (if c then Some event.1 else None) []) ++ (if b && c then rest else system.waiting from target) ≡ made plan limits feeds before from target
  left_by from target true false e f = ap (λ (s : List Sent). sent_from from s ++ system.waiting from target) (append-nil (sent_to target before)) ∙ at.links from target
  left_by from target false false e f = ap (λ (s : List Sent). sent_from from s ++ system.waiting from target) (append-nil (sent_to target before)) ∙ at.links from target
  left_by from target false true e f =
      let other : same_source source from ≡ false = same_source_swap source from ∙ e in
      let sent : sent_from from (sent_to target before ++ event.1 ∷ []) ≡ sent_from from (sent_to target before) = filter_map-append (if_from from) (sent_to target before) (event.1 ∷ []) ∙ ap (λ (x : Bool). sent_from from (sent_to target before) ++ cons_option (if x then Some event.1.1 else None) []) other ∙ append-nil (sent_from from (sent_to target before)) in
      ap (λ (s : List Stamped). s ++ system.waiting from target) sent ∙ at.links from target
  left_by from target true true e f =
      let here : same_source source from ≡ true = same_source_swap source from ∙ e in
      let sent : sent_from from (sent_to target before ++ event.1 ∷ []) ≡ sent_from from (sent_to target before) ++ event.1.1 ∷ [] = filter_map-append (if_from from) (sent_to target before) (event.1 ∷ []) ∙ ap (λ (x : Bool). sent_from from (sent_to target before) ++ cons_option (if x then Some event.1.1 else None) []) here in
      let link : system.waiting from target ≡ event.1.1 ∷ rest = (λ i. system.waiting (same_source_is from source e i) (same_number target actor f i)) ∙ waits in
      ap (λ (s : List Stamped). s ++ rest) sent ∙ append_assoc (sent_from from (sent_to target before)) (event.1.1 ∷ []) rest ∙ ap (λ (s : List Stamped). sent_from from (sent_to target before) ++ s) (sym link) ∙ at.links from target

  left : (from : Source) (target : ℕ) → Left from target
  left from target =
      ap (λ (s : List Sent). sent_from from s ++ left_waiting system actor source rest from target) (sent_later plan limits feeds before event target)
      ∙ left_by from target (same_source from source) (target == actor) refl refl

  -- what the step made is what waits newly
  makes : (from : Source) (target : ℕ) → made plan limits feeds (before ++ event ∷ []) from target ≡ made plan limits feeds before from target ++ newly_waiting system actor after from target
  makes (Feed zero) target = refl
  makes (Feed (suc k)) target = sym (append-nil (made plan limits feeds before (Feed (suc k)) target))
  makes (Actor a) target = by (a == actor) refl
    where
      by : (b : Bool) → (a == actor) ≡ b → made plan limits feeds (before ++ event ∷ []) (Actor a) target ≡ made plan limits feeds before (Actor a) target ++ (if b then posts_made (system.state actor) after target else [])
      by false e = ap (λ (s : State). flat_map (entry_posts target) s.entries) (stays plan limits feeds before event a e) ∙ sym (append-nil (made plan limits feeds before (Actor a) target))
      by true e =
          let mine : state_at plan limits feeds before a ≡ system.state actor = ap (state_at plan limits feeds before) (same_number a actor e) ∙ sym (at.state actor) in
          ap (λ (s : State). flat_map (entry_posts target) s.entries) (sym (after_is a e)) ∙ drop_added (setting_of plan actor limits) (system.state actor) event.1 target
          ∙ ap (λ (s : State). flat_map (entry_posts target) s.entries ++ posts_made (system.state actor) after target) (sym mine)

  links_next : (from : Source) (target : ℕ) → sent_from from (sent_to target (before ++ event ∷ [])) ++ next.waiting from target ≡ made plan limits feeds (before ++ event ∷ []) from target
  links_next from target =
      sym (append_assoc (sent_from from (sent_to target (before ++ event ∷ []))) (left_waiting system actor source rest from target) (newly_waiting system actor after from target))
      ∙ ap (λ (s : List Stamped). s ++ newly_waiting system actor after from target) (left from target)
      ∙ sym (makes from target)

  pub next_is : IsSystemAt plan limits feeds (before ++ event ∷ []) next
  next_is = record { state = state_next; links = links_next }

-- the system that a schedule leads to
pub record Leads (plan : Plan) (limits : Limits) (feeds : List (List (ℕ × Message))) (before : List Event) (system : System) (pairs : List (ℕ × Source)) : Type 0 where
  pub end : System
  pub steps : after_schedule plan limits system pairs ≡ Some end
  pub is : IsSystemAt plan limits feeds before end

module _ (plan : Plan) (limits : Limits) (feeds : List (List (ℕ × Message))) where
  -- an event whose post waits is a step
  one_step : (before : List Event) (event : Event) (system : System) → IsSystemAt plan limits feeds before system → Waits plan limits feeds before event → Begins event.1.1 (system.waiting event.1.0 event.0)
  one_step before event system at waits =
      let sent : List Stamped = sent_from event.1.0 (sent_to event.0 before) in
      begins_behind sent (system.waiting event.1.0 event.0) event.1.1 (rw (at.links event.1.0 event.0) waits)

  -- each of the events finds its post
  abbrev pub EachWaits : List Event → List Event → Type 0
  EachWaits before [] = Unit {0}
  EachWaits before (event ∷ events) = Waits plan limits feeds before event × EachWaits (before ++ event ∷ []) events

  pub all_steps : (before events : List Event) (system : System) → IsSystemAt plan limits feeds before system → EachWaits before events → Leads plan limits feeds (before ++ events) system (map pair_of events)
  all_steps before [] system at each = record { end = system; steps = refl; is = subst (λ (e : List Event). IsSystemAt plan limits feeds e system) (sym (append-nil before)) at }
  all_steps before (event ∷ events) system at each =
      let b = one_step before event system at each.0 in
      let n : System = next plan limits feeds before system at event b.rest b.is in
      let more = all_steps (before ++ event ∷ []) events n (next_is plan limits feeds before system at event b.rest b.is) each.1 in
      record {
        end = more.end;
        steps = ap (option_and_then (λ s. after_schedule plan limits s (map pair_of events))) (step_is plan limits feeds before system at event b.rest b.is) ∙ more.steps;
        is = subst (λ (e : List Event). IsSystemAt plan limits feeds e more.end) (append_assoc before (event ∷ []) events) more.is;
      }
