-- A linked run with stamps is that of one schedule.
use Rattle.std.proofs.Common.{◌≡◌, ◌∙◌, ◌⊎◌, inl, inr, ℕ, zero, suc, ◌+◌, ◌<◌, List, [], ◌∷◌, ◌++◌, length, map, Option, None, Some, slice_get, append_assoc, refl, ap, sym, subst, arith}
use Rattle.std.specs.List.{flat_map}
use Rattle.std.proofs.lemmas.Bool.{cases_lt}
use Rattle.std.proofs.lemmas.List.{append-nil, map-append}
use Rattle.std.proofs.lemmas.Option.{slice_get_past}
use Rattle.std.proofs.lemmas.List.Elements.{filter_map-append}
use Rattle.join_base.specs.declared.message.Message.{Message}
use Rattle.join_base.specs.declared.message.Stamped.{Stamped}
use Rattle.join_base.specs.declared.message.Source.{Source}
use Rattle.join_base.specs.declared.message.Source.TheVariants.{Feed, Actor}
use Rattle.script_types.specs.declared.plan.Plan.{Plan}
use Rattle.script_types.specs.Typed.{kind_types}
use Rattle.fair_semantics.specs.declared.run.Limits.{Limits}
use Rattle.fair_semantics.specs.declared.run.Entry.{Entry}
use Rattle.fair_semantics.specs.declared.run.ActorRun.{ActorRun}
use Rattle.fair_semantics.specs.declared.run.Run.{Run}
use Rattle.fair_semantics.specs.Fair.{Sent, after_all, run_of, setting_of}
use Rattle.fair_semantics.specs.Linked.{entry_posts, feed_posts, numbers_from, posts_in, sources, IsLinked}
use Rattle.fair_semantics.specs.Schedule.{System, after_schedule, system_at_first}
use Rattle.run_order_law.specs.Order.{RunsAreSchedules, by_stamp, order_of, shown}
use Rattle.run_order_law.specs.Sorted.{ArrivalsAreInOrder}
use Rattle.run_order_law.proofs.OrderLemmas.{order_ascends, ordered_pairs}
use Rattle.run_order_law.proofs.ArrivalLemmas.{pairs_of_events}
use Rattle.run_order_law.proofs.EventLemmas.{Event, IsSystemAt, at_first, if_to, made, pair_of, sent_from, sent_to}
use Rattle.run_order_law.proofs.GivenLemmas.{given_all}
use Rattle.run_order_law.proofs.SourceLemmas.{OneOf, actor_among, contains_one, feed_among}
use Rattle.run_order_law.proofs.PhaseLemmas.{arrivals_are, arrivals_to, arrivals_wait, order, order_is, rests, rests_are, rests_wait}
use Rattle.run_order_law.proofs.ServeLemmas.{EachWaits, Leads, all_steps}
use Rattle.run_order_law.proofs.WaitLemmas.{at_opening, final_entries, given_by_run, given_to, own_is, posts, posts_from}
use Rattle.run_order_law.proofs.ListLemmas.{IsThere, empty_right, none_behind, there}

each_both : (plan : Plan) (limits : Limits) (feeds : List (List (ℕ × Message))) (before xs ys : List Event) → EachWaits plan limits feeds before xs → EachWaits plan limits feeds (before ++ xs) ys → EachWaits plan limits feeds before (xs ++ ys)
each_both plan limits feeds before [] ys first second = subst (λ (b : List Event). EachWaits plan limits feeds b ys) (append-nil before) second
each_both plan limits feeds before (x ∷ xs) ys first second =
    (first.0, each_both plan limits feeds (before ++ x ∷ []) xs ys first.1 (subst (λ (b : List Event). EachWaits plan limits feeds b ys) (sym (append_assoc before (x ∷ []) xs)) second))

-- a list made of the numbers of its places
made_each : (f : ℕ → ActorRun) (from : ℕ) (runs : List ActorRun) → ((k : ℕ) (own : ActorRun) → slice_get runs k ≡ Some own → f (from + k) ≡ own) → map f (numbers_from from (length runs)) ≡ runs
made_each f from [] h = refl
made_each f from (own ∷ more) h =
    let first : from + 0 ≡ from = omega arith in
    let later = made_each f (from + 1) more (λ k x e. let next : from + suc k ≡ from + 1 + k = omega arith in subst (λ (n : ℕ). f n ≡ x) next (h (suc k) x e)) in
    λ i. subst (λ (n : ℕ). f n ≡ own) first (h 0 own refl) i ∷ later i

module _ (plan : Plan) (limits : Limits) (feeds : List (List (ℕ × Message))) (run : Run) (linked : IsLinked plan limits feeds run) (version : run.version ≡ 2) where
  abbrev given : ℕ → List Sent
  given = given_to plan limits feeds run linked version

  abbrev in_order : List (ℕ × Entry)
  in_order = order plan limits feeds run linked version

  abbrev arrivals : List Event
  arrivals = arrivals_to plan limits feeds run linked version in_order

  abbrev late : List Event
  late = rests plan limits feeds run linked version

  abbrev events : List Event
  events = arrivals ++ late

  each_waits : EachWaits plan limits feeds [] events
  each_waits =
      each_both plan limits feeds [] arrivals late
      (arrivals_wait plan limits feeds run linked version [] in_order refl)
      (subst (λ (b : List Event). EachWaits plan limits feeds b late) (append-nil arrivals)
      (rests_wait plan limits feeds run linked version [] late refl))

  leads : Leads plan limits feeds events (system_at_first plan feeds) (map pair_of events)
  leads = all_steps plan limits feeds [] events (system_at_first plan feeds) (at_first plan limits feeds) each_waits

  pairs_are : map pair_of events ≡ order_of plan feeds run
  pairs_are =
      map-append pair_of arrivals late
      ∙ ap (λ (ps : List (ℕ × Source)). ps ++ map pair_of late) (pairs_of_events (posts plan limits feeds run linked version) [] in_order)

  -- at the end each actor was given all
  given_is : (actor : ℕ) → sent_to actor events ≡ given actor
  given_is actor =
      filter_map-append (if_to actor) arrivals late
      ∙ (λ i. arrivals_are plan limits feeds run linked version actor i ++ rests_are plan limits feeds run linked version actor i)

  module _ (end : System) (at : IsSystemAt plan limits feeds events end) where
    own_shows : (actor : ℕ) (own : ActorRun) → slice_get run.actors actor ≡ Some own → run_of (setting_of plan actor limits).rules (end.state actor) ≡ own
    own_shows actor own e =
        ap (run_of (setting_of plan actor limits).rules) (at.state actor ∙ ap (after_all (setting_of plan actor limits) (at_opening plan limits feeds run linked version)) (given_is actor ∙ ap (given_by_run plan limits feeds run linked version actor) e))
        ∙ sym (own_is plan limits feeds run linked version actor own e)

    shows : shown plan limits feeds end ≡ run
    shows =
        let each : map (λ actor. run_of (setting_of plan actor limits).rules (end.state actor)) (numbers_from 0 (length plan.actors)) ≡ run.actors =
        ap (λ (n : ℕ). map (λ actor. run_of (setting_of plan actor limits).rules (end.state actor)) (numbers_from 0 n)) (sym linked.fits_plan.actors)
        ∙ made_each (λ actor. run_of (setting_of plan actor limits).rules (end.state actor)) 0 run.actors (λ k own e. let same : 0 + k ≡ k = omega arith in subst (λ (n : ℕ). run_of (setting_of plan n limits).rules (end.state n) ≡ own) (sym same) (own_shows k own e)) in
        λ i. record { version = sym version i; limits = sym linked.same_limits i; feeds = sym linked.feed_count i; actors = each i }

    sent_all : (source : Source) (actor : ℕ) → made plan limits feeds events source actor ≡ posts plan limits feeds run linked version actor source
    sent_all (Feed zero) actor = refl
    sent_all (Feed (suc k)) actor = refl
    sent_all (Actor b) actor =
        ap (λ (xs : List Sent). flat_map (entry_posts actor) (after_all (setting_of plan b limits) (at_opening plan limits feeds run linked version) xs).entries) (given_is b)
        ∙ ap (λ (es : List Entry). flat_map (entry_posts actor) es) (final_entries plan limits feeds run linked version b)
        ∙ sym (posts_from actor (slice_get run.actors b))

    -- a source of the run, or one that sends nothing
    one_or_silent : (source : Source) (actor : ℕ) → OneOf source (sources run.feeds (length plan.actors)) ⊎ (posts plan limits feeds run linked version actor source ≡ [])
    one_or_silent (Feed zero) actor = inr refl
    one_or_silent (Feed (suc k)) actor =
        elim (cases_lt k (length feeds)) [
          | inl within ↦ inl (feed_among run.feeds (length plan.actors) (suc k) (omega arith) (omega (arith, linked.feed_count)))
          | inr past ↦ inr (ap (feed_posts actor) (slice_get_past feeds k (omega arith)))
        ]
    one_or_silent (Actor b) actor =
        elim (cases_lt b (length plan.actors)) [
          | inl within ↦ inl (actor_among run.feeds (length plan.actors) b within)
          | inr past ↦ inr (ap (posts_in actor) (slice_get_past run.actors b (omega (arith, linked.fits_plan.actors))))
        ]

    none_waits : (source : Source) (actor : ℕ) → actor < length plan.actors → end.waiting source actor ≡ []
    none_waits source actor l = by (slice_get run.actors actor) refl (there run.actors actor (omega (arith, linked.fits_plan.actors))) (one_or_silent source actor)
      where
        by : (o : Option ActorRun) → slice_get run.actors actor ≡ o → IsThere o → OneOf source (sources run.feeds (length plan.actors)) ⊎ (posts plan limits feeds run linked version actor source ≡ []) → end.waiting source actor ≡ []
        by None e h which = absurd h
        by (Some own) e h (inl one) =
            let all : sent_from source (sent_to actor events) ≡ posts plan limits feeds run linked version actor source =
            ap (sent_from source) (given_is actor ∙ ap (given_by_run plan limits feeds run linked version actor) e)
            ∙ given_all (posts plan limits feeds run linked version actor) own.entries source (kind_types plan.kinds) (sources run.feeds (length plan.actors)) one
            ((linked.each actor own e).in_order source (contains_one source (sources run.feeds (length plan.actors)) one)) in
            none_behind (posts plan limits feeds run linked version actor source) (end.waiting source actor) (ap (λ (ps : List Stamped). ps ++ end.waiting source actor) (sym all) ∙ at.links source actor ∙ sent_all source actor)
        by (Some own) e h (inr none) = empty_right (sent_from source (sent_to actor events)) (end.waiting source actor) (at.links source actor ∙ sent_all source actor ∙ none)

pub runs_are_schedules : RunsAreSchedules
runs_are_schedules plan limits feeds run linked version =
    let l = leads plan limits feeds run linked version in
    let steps : after_schedule plan limits (system_at_first plan feeds) (order_of plan feeds run) ≡ Some l.end = ap (after_schedule plan limits (system_at_first plan feeds)) (sym (pairs_are plan limits feeds run linked version)) ∙ l.steps in
    record { end = l.end; steps = steps; ends = record { none_waits = none_waits plan limits feeds run linked version l.end l.is; shows = shows plan limits feeds run linked version l.end l.is } }

pub arrivals_in_order : ArrivalsAreInOrder
arrivals_in_order plan limits feeds run linked version = record { has_each = order_is plan limits feeds run linked version; ascends = ordered_pairs (by_stamp run.actors) (order_ascends run.actors) }
