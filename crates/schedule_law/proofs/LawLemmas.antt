-- A system that a schedule reaches, and at which nothing waits, shows a linked run.
use Rattle.std.proofs.Common.{◌≡◌, ◌∙◌, ◌⊎◌, inl, inr, ℕ, zero, suc, ◌+◌, ◌<◌, ◌≤◌, List, [], ◌∷◌, ◌++◌, length, map, Bool, true, false, Option, None, Some, slice_get, append_assoc, refl, ap, sym, subst, arith}
use Rattle.std.specs.Prelude.{if◌then◌else◌, ◌==◌, Contains}
use Rattle.std.specs.List.{AllByRecursion, cons_option, flat_map}
use Rattle.std.proofs.lemmas.Bool.{cases_lt}
use Rattle.std.proofs.lemmas.List.{append-nil, length-map}
use Rattle.std.proofs.lemmas.Option.{slice_get_past, slice_get_within}
use Rattle.join_base.specs.declared.message.Message.{Message}
use Rattle.join_base.specs.declared.message.Stamped.{Stamped}
use Rattle.join_base.specs.declared.message.Source.{Source}
use Rattle.join_base.specs.declared.message.Source.TheVariants.{Feed, Actor}
use Rattle.script_types.specs.declared.plan.Plan.{Plan}
use Rattle.fair_semantics.specs.declared.run.Limits.{Limits}
use Rattle.fair_semantics.specs.declared.run.ActorRun.{ActorRun}
use Rattle.fair_semantics.specs.declared.run.Run.{Run}
use Rattle.fair_semantics.specs.Step.{Setting, State, opening}
use Rattle.fair_semantics.specs.Fair.{Sent, after_all, run_of, setting_of}
use Rattle.fair_semantics.specs.Fits.{RunFits}
use Rattle.fair_semantics.specs.Linked.{entry_posts, feed_posts, numbers_from, posts_in, posts_of, sources, IsLinked, IsLinkedActor}
use Rattle.fair_semantics.specs.Schedule.{System, system_at_first}
use Rattle.fair_semantics.proofs.ListLemmas.{each_append, each_from}
use Rattle.run_order_law.specs.Order.{shown}
use Rattle.run_order_law.proofs.EventLemmas.{Event, IsSystemAt, at_first, if_to, made, pair_of, sent_from, sent_to, state_at}
use Rattle.run_order_law.proofs.ListLemmas.{nothing_here}
use Rattle.run_order_law.proofs.SourceLemmas.{not_equal}
use Rattle.fair_semantics.proofs.CountedLemmas.{Among}
use Rattle.fair_semantics.proofs.NumberLemmas.{among_sources}
use Rattle.fair_semantics.proofs.NumberLemmas.{count_numbers}
use Rattle.fair_semantics.proofs.NumberLemmas.{get_numbers}
use Rattle.schedule_law.specs.Reached.{IsReached, NothingWaits}
use Rattle.schedule_law.proofs.ReachLemmas.{Came, EachNext, IsNext, came}
use Rattle.schedule_law.proofs.SettledLemmas.{fair, final, in_order, late, none_late}

-- ---- who takes part

module _ (plan : Plan) (limits : Limits) (feeds : List (List (ℕ × Message))) where
  -- the events are of actors of the plan
  abbrev pub OfActors : List Event → Type 0
  OfActors events = AllByRecursion (λ (event : Event). event.0 < length plan.actors) events

  pub of_pairs : (events : List Event) → AllByRecursion (λ (pair : ℕ × Source). pair.0 < length plan.actors) (map pair_of events) → OfActors events
  of_pairs [] each = tt
  of_pairs (event ∷ events) each = (each.0, of_pairs events each.1)

  none_sent : (actor : ℕ) (events : List Event) → OfActors events → length plan.actors ≤ actor → sent_to actor events ≡ []
  none_sent actor [] each l = refl
  none_sent actor (event ∷ events) each l =
      let other : (actor == event.0) ≡ false = not_equal actor event.0 (inr (omega (arith, each.0))) in
      λ i. cons_option (if other i then Some event.1 else None) (none_sent actor events each.1 l i)

  -- who is no actor of the plan makes nothing
  none_made : (events : List Event) → OfActors events → (actor target : ℕ) → length plan.actors ≤ actor → made plan limits feeds events (Actor actor) target ≡ []
  none_made events each actor target l = ap (λ (xs : List Sent). flat_map (entry_posts target) (after_all (setting_of plan actor limits) (opening (length feeds) (length plan.actors)) xs).entries) (none_sent actor events each l)

  source_among : (before : List Event) (source : Source) (target : ℕ) (sent : List Stamped) (post : Stamped) (rest : List Stamped) → OfActors before → made plan limits feeds before source target ≡ sent ++ post ∷ rest → Among (length feeds) (length plan.actors) source
  source_among before (Feed zero) target sent post rest each is = absurd (nothing_here sent post rest is)
  source_among before (Feed (suc k)) target sent post rest each is =
      elim (cases_lt k (length feeds)) [
        | inl within ↦ (omega arith, omega arith)
        | inr past ↦ absurd (nothing_here sent post rest (sym (ap (feed_posts target) (slice_get_past feeds k (omega arith))) ∙ is))
      ]
  source_among before (Actor b) target sent post rest each is =
      elim (cases_lt b (length plan.actors)) [
        | inl within ↦ within
        | inr past ↦ absurd (nothing_here sent post rest (sym (none_made before each b target (omega arith)) ∙ is))
      ]

  abbrev pub EachAmong : List Event → Type 0
  EachAmong events = AllByRecursion (λ (event : Event). Among (length feeds) (length plan.actors) event.1.0) events

  pub each_among : (before events : List Event) → OfActors before → OfActors events → EachNext plan limits feeds before events → EachAmong events
  each_among before [] earlier each next = tt
  each_among before (event ∷ events) earlier each next =
      let n = next.0 in (
        source_among before event.1.0 event.0 (sent_from event.1.0 (sent_to event.0 before)) event.1.1 n.rest earlier n.is,
        each_among (before ++ event ∷ []) events (each_append (λ (e : Event). e.0 < length plan.actors) before (event ∷ []) earlier (each.0, tt)) each.1 next.1,
      )

  among_sent : (actor : ℕ) (events : List Event) → EachAmong events → AllByRecursion (λ (s : Sent). Among (length feeds) (length plan.actors) s.0) (sent_to actor events)
  among_sent actor [] each = tt
  among_sent actor (event ∷ events) each = by (actor == event.0) (among_sent actor events each.1)
    where
      Each : List Sent → Type 0
      Each sent = AllByRecursion (λ (s : Sent). Among (length feeds) (length plan.actors) s.0) sent

      by : (b : Bool) → AllByRecursion (λ (s : Sent). Among (length feeds) (length plan.actors) s.0) (sent_to actor events) → AllByRecursion (λ (s : Sent). Among (length feeds) (length plan.actors) s.0) (cons_option (if b then Some event.1 else None) (sent_to actor events))
      by true later = (each.0, later)
      by false later = later

-- ---- the run

module _ (plan : Plan) (limits : Limits) (feeds : List (List (ℕ × Message))) (system : System) (events : List Event) (of_actors : OfActors plan limits feeds events) (among : EachAmong plan limits feeds events) (at : IsSystemAt plan limits feeds events system) where
  abbrev run : Run
  run = shown plan limits feeds system

  abbrev own_shown : ℕ → ActorRun
  own_shown actor = run_of (setting_of plan actor limits).rules (system.state actor)

  here : (actor : ℕ) → actor < length plan.actors → slice_get run.actors actor ≡ Some (own_shown actor)
  here actor l = let e : 0 + actor ≡ actor = omega arith in get_numbers own_shown 0 (length plan.actors) actor l ∙ ap (λ (n : ℕ). Some (own_shown n)) e

  pub count_at : length run.actors ≡ length plan.actors
  count_at = length-map (numbers_from 0 (length plan.actors)) own_shown ∙ count_numbers 0 (length plan.actors)

  abbrev posts : ℕ → Source → List Stamped
  posts actor source = posts_of feeds run.actors source actor

  sent_all : (source : Source) (actor : ℕ) → made plan limits feeds events source actor ≡ posts actor source
  sent_all (Feed zero) actor = refl
  sent_all (Feed (suc k)) actor = refl
  sent_all (Actor b) actor =
      elim (cases_lt b (length plan.actors)) [
        | inl within ↦ ap (λ (s : State). flat_map (entry_posts actor) s.entries) (sym (at.state b)) ∙ sym (ap (posts_in actor) (here b within))
        | inr past ↦ none_made plan limits feeds events of_actors b actor (omega arith) ∙ sym (ap (posts_in actor) (slice_get_past run.actors b (omega (arith, count_at))))
      ]

  module _ (waits : NothingWaits plan system) where
    module _ (actor : ℕ) (l : actor < length plan.actors) where
      abbrev sent : List Sent
      sent = sent_to actor events

      all : (source : Source) → sent_from source sent ≡ posts actor source
      all source = sym (append-nil (sent_from source sent)) ∙ ap (λ (ps : List Stamped). sent_from source sent ++ ps) (sym (waits source actor l)) ∙ at.links source actor ∙ sent_all source actor

      abbrev setting : Setting
      setting = setting_of plan actor limits

      own_among : AllByRecursion (λ (s : Sent). Among (length feeds) (length plan.actors) s.0) sent
      own_among = among_sent plan limits feeds actor events among

      abbrev last : State
      last = final setting (length feeds) (length plan.actors) (posts actor) sent all own_among

      abbrev own : ActorRun
      own = run_of setting.rules last

      own_is : own_shown actor ≡ own
      own_is = ap (run_of setting.rules) (at.state actor)

      linked_own : IsLinkedActor plan limits feeds run actor own
      linked_own = record {
        in_order = λ source c. in_order setting (length feeds) (length plan.actors) (posts actor) sent all own_among source;
        late = λ source c. late setting (length feeds) (length plan.actors) (posts actor) sent all own_among source (among_sources (length feeds) (length plan.actors) source c);
        none_late = none_late setting (length feeds) (length plan.actors) (posts actor) sent all own_among;
        fair = ap (run_of setting.rules) (fair setting (length feeds) (length plan.actors) (posts actor) sent all own_among);
      }

    each : (actor : ℕ) (own : ActorRun) → slice_get run.actors actor ≡ Some own → IsLinkedActor plan limits feeds run actor own
    each actor other is =
        let l : actor < length plan.actors = let within = slice_get_within run.actors actor other is in omega (arith, count_at) in
        let same : own actor l ≡ other = sym (own_is actor l) ∙ some_is (sym (here actor l) ∙ is) in
        subst (λ (x : ActorRun). IsLinkedActor plan limits feeds run actor x) same (linked_own actor l)
      where
        some_is : {x y : ActorRun} → Some x ≡ Some y → x ≡ y
        some_is e = cc

    pub linked_at : RunFits plan run → IsLinked plan limits feeds run
    linked_at fits = record { fits_plan = fits; same_limits = refl; feed_count = refl; each = each }

-- ---- after a schedule

module _ (plan : Plan) (limits : Limits) (feeds : List (List (ℕ × Message))) (system : System) (reached : IsReached plan limits feeds system) where
  abbrev reach : Came plan limits feeds [] reached.pairs system
  reach = came plan limits feeds reached.pairs system (system_at_first plan feeds) [] (at_first plan limits feeds) reached.steps

  abbrev pub events : List Event
  events = reach.events

  pub at : IsSystemAt plan limits feeds events system
  at = reach.is

  of_actors : OfActors plan limits feeds events
  of_actors = of_pairs plan limits feeds events (subst (AllByRecursion (λ (pair : ℕ × Source). pair.0 < length plan.actors)) (sym reach.pairs_are) reached.of_actors)

  pub among : EachAmong plan limits feeds events
  among = each_among plan limits feeds [] events tt of_actors reach.each

  -- the pairs of the schedule are of actors and sources of the run
  pub pairs_among : AllByRecursion (λ (pair : ℕ × Source). (pair.0 < length plan.actors) × Among (length feeds) (length plan.actors) pair.1) reached.pairs
  pairs_among = subst (AllByRecursion (λ (pair : ℕ × Source). (pair.0 < length plan.actors) × Among (length feeds) (length plan.actors) pair.1)) reach.pairs_are (both events of_actors among)
    where
      both : (es : List Event) → OfActors plan limits feeds es → EachAmong plan limits feeds es → AllByRecursion (λ (pair : ℕ × Source). (pair.0 < length plan.actors) × Among (length feeds) (length plan.actors) pair.1) (map pair_of es)
      both [] a b = tt
      both (e ∷ es) a b = ((a.0, b.0), both es a.1 b.1)

  pub next_each : EachNext plan limits feeds [] events
  next_each = reach.each

  pub count : length (shown plan limits feeds system).actors ≡ length plan.actors
  count = count_at plan limits feeds system events of_actors among at

  pub linked : NothingWaits plan system → RunFits plan (shown plan limits feeds system) → IsLinked plan limits feeds (shown plan limits feeds system)
  linked waits fits = linked_at plan limits feeds system events of_actors among at waits fits
