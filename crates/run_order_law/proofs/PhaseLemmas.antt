-- Each arrival finds its post in the order of stamps, and then each of the rests does.
use Rattle.std.proofs.Common.{◌≡◌, ◌∙◌, ◌⊎◌, inl, inr, ℕ, ◌+◌, ◌<◌, List, [], ◌∷◌, ◌++◌, length, Option, None, Some, slice_get, append_assoc, refl, ap, sym, subst, arith}
use Rattle.std.proofs.lemmas.List.{append-nil}
use Rattle.std.proofs.lemmas.List.Elements.{filter_map-append}
use Rattle.join_base.specs.declared.message.Message.{Message}
use Rattle.join_base.specs.declared.message.Stamped.{Stamped}
use Rattle.join_base.specs.declared.message.Source.{Source}
use Rattle.join_base.specs.declared.message.Source.TheVariants.{Feed, Actor}
use Rattle.pattern_core.specs.Members.{IsIn}
use Rattle.pattern_core.proofs.MembersLemmas.{IsIn-append_right, IsIn-flat_map}
use Rattle.script_types.specs.declared.plan.Plan.{Plan}
use Rattle.script_types.specs.Typed.{kind_types}
use Rattle.fair_semantics.specs.declared.run.Limits.{Limits}
use Rattle.fair_semantics.specs.declared.run.Entry.{Entry}
use Rattle.fair_semantics.specs.declared.run.ActorRun.{ActorRun}
use Rattle.fair_semantics.specs.declared.run.Run.{Run}
use Rattle.fair_semantics.specs.Step.{State}
use Rattle.fair_semantics.specs.Fair.{Sent, after_all, setting_of}
use Rattle.fair_semantics.specs.Fits.{ActorRunFits, EntryFits, SourceFits}
use Rattle.fair_semantics.specs.Linked.{arrived, arrived_after, sources, IsLinked}
use Rattle.fair_semantics.specs.StampLaw.{arrivals_of}
use Rattle.fair_semantics.proofs.ChainLemmas.{Records}
use Rattle.fair_semantics.proofs.StampLemmas.{found_in, stamps_are_few}
use Rattle.run_order_law.specs.Order.{by_stamp, of_each, rests_to}
use Rattle.run_order_law.proofs.ArrivalLemmas.{arrived_after-append, event_of, events_after, events_one_more, length-arrived, sent_events}
use Rattle.run_order_law.proofs.EventLemmas.{Event, Waits, for_actor, if_to, sent_from, sent_to, state_at}
use Rattle.run_order_law.proofs.GivenLemmas.{carried, rests_none}
use Rattle.run_order_law.proofs.SourceLemmas.{NoneOf, OneOf, actor_among, feed_among, one_or_none}
use Rattle.run_order_law.proofs.OrderLemmas.{AreFrom, AreOrdered, AreWithin, entries_in, for_run, from_for, had, order_ascends, order_for, ordered_behind}
use Rattle.run_order_law.proofs.RecordLemmas.{are_rising, recorded_all, recorded_first, stamp_above}
use Rattle.run_order_law.proofs.ServeLemmas.{EachWaits}
use Rattle.run_order_law.proofs.WaitLemmas.{Behind, at_opening, entries, final_entries, for_itself, from_itself, given_to, is_made, next_post, posts, records}
use Rattle.run_order_law.proofs.ListLemmas.{each_in, in_each, nothing_here}

module _ (plan : Plan) (limits : Limits) (feeds : List (List (ℕ × Message))) (run : Run) (linked : IsLinked plan limits feeds run) (version : run.version ≡ 2) where
  abbrev sent : ℕ → Source → List Stamped
  sent = posts plan limits feeds run linked version

  abbrev own : ℕ → List Entry
  own = entries plan limits feeds run linked version

  abbrev given : ℕ → List Sent
  given = given_to plan limits feeds run linked version

  abbrev start : State
  start = at_opening plan limits feeds run linked version

  abbrev late : ℕ → List Sent
  late actor = had (rests_to plan feeds run) actor (slice_get run.actors actor)

  abbrev pub order : List (ℕ × Entry)
  order = by_stamp run.actors

  abbrev all_sources : List Source
  all_sources = sources run.feeds (length plan.actors)

  -- ---- the order has each actor's entries

  source_fits : (source : Source) → SourceFits plan run.feeds source → OneOf source all_sources
  source_fits (Feed k) fits = feed_among run.feeds (length plan.actors) k fits.0 fits.1
  source_fits (Actor a) fits = actor_among run.feeds (length plan.actors) a fits

  -- an entry of a run is one of all
  in_runs : (actor : ℕ) (e : Entry) → IsIn e (own actor) → (r : ActorRun) × IsIn r run.actors × IsIn e r.entries
  in_runs actor e i = by (slice_get run.actors actor) refl i
    where
      by : (o : Option ActorRun) → slice_get run.actors actor ≡ o → IsIn e (entries_in o) → (r : ActorRun) × IsIn r run.actors × IsIn e r.entries
      by None is j = absurd j
      by (Some r) is j = (r, found_in run.actors actor r is, j)

  entry_source : (actor : ℕ) (e : Entry) → IsIn e (own actor) → OneOf e.source all_sources
  entry_source actor e i =
      let r = in_runs actor e i in
      let fits = each_in (ActorRunFits plan run.version run.feeds) run.actors linked.fits_plan.each r.0 r.1 in
      let fit = each_in (EntryFits plan run.version run.feeds) r.0.entries fits.entries e r.2 in
      source_fits e.source fit.source

  within : (actor : ℕ) → AreWithin (1 + length (arrivals_of run.actors)) (own actor)
  within actor = in_each (λ (e : Entry). e.stamp < 1 + length (arrivals_of run.actors)) (own actor) few
    where
      few : (e : Entry) → IsIn e (own actor) → e.stamp < 1 + length (arrivals_of run.actors)
      few e i =
          let r = in_runs actor e i in
          let most = stamps_are_few plan limits feeds run linked version e (IsIn-flat_map (λ (x : ActorRun). x.entries) r.0 e run.actors r.1 r.2) in
          omega arith

  pub order_is : (actor : ℕ) → for_actor actor order ≡ own actor
  order_is actor = order_for actor run.actors (are_rising 0 (given actor) (own actor) (records plan limits feeds run linked version actor)) (within actor)

  -- ---- the arrivals

  abbrev pub arrivals_to : List (ℕ × Entry) → List Event
  arrivals_to arrivals = events_after sent [] arrivals

  module _ (front : List (ℕ × Entry)) (actor : ℕ) (e : Entry) (behind : List (ℕ × Entry)) (whole : order ≡ front ++ (actor, e) ∷ behind) where
    abbrev before : List Event
    before = arrivals_to front

    split : (other : ℕ) → own other ≡ for_actor other front ++ for_actor other ((actor, e) ∷ behind)
    split other = sym (order_is other) ∙ ap (λ (xs : List (ℕ × Entry)). for_actor other xs) whole ∙ filter_map-append (if_to other) front ((actor, e) ∷ behind)

    abbrev sent_behind : ℕ → List Entry → List Sent
    sent_behind other es = arrived_after (sent other) (for_actor other front) es ++ late other

    given_is : (other : ℕ) (es : List Entry) → own other ≡ for_actor other front ++ es → given other ≡ sent_to other before ++ sent_behind other es
    given_is other es e =
        ap (λ (xs : List Entry). arrived_after (sent other) [] xs ++ late other) e
        ∙ ap (λ (xs : List Sent). xs ++ late other) (arrived_after-append (sent other) [] (for_actor other front) es)
        ∙ append_assoc (arrived_after (sent other) [] (for_actor other front)) (arrived_after (sent other) (for_actor other front) es) (late other)
        ∙ ap (λ (xs : List Sent). xs ++ sent_behind other es) (sym (sent_events sent other [] front))

    count : (other : ℕ) → length (for_actor other front) ≡ length (sent_to other before)
    count other = sym (ap length (sent_events sent other [] front) ∙ length-arrived (sent other) [] (for_actor other front))

    -- what the actors recorded so far
    so_far : (other : ℕ) → (state_at plan limits feeds before other).entries ≡ for_actor other front
    so_far other =
        let es : List Entry = for_actor other ((actor, e) ∷ behind) in
        recorded_first (setting_of plan other limits) (sent_to other before) (sent_behind other es) start (for_actor other front) es (count other)
        (ap (λ (xs : List Sent). (after_all (setting_of plan other limits) start xs).entries) (sym (given_is other es (split other))) ∙ final_entries plan limits feeds run linked version other ∙ split other)

    next_split : own actor ≡ for_actor actor front ++ e ∷ for_actor actor behind
    next_split = split actor ∙ ap (λ (xs : List Entry). for_actor actor front ++ xs) (for_itself actor e behind)

    abbrev post : Stamped
    post = carried (sent actor) (for_actor actor front) e

    abbrev given_next : List Sent
    given_next = arrived_after (sent actor) (for_actor actor front ++ e ∷ []) (for_actor actor behind) ++ late actor

    smaller : post.stamp < e.stamp
    smaller =
        let r : Records 0 (sent_to actor before ++ (e.source, post) ∷ given_next) (for_actor actor front ++ e ∷ for_actor actor behind) =
        subst (λ (es : List Entry). Records 0 (sent_to actor before ++ (e.source, post) ∷ given_next) es) next_split (subst (λ (xs : List Sent). Records 0 xs (own actor)) (given_is actor (e ∷ for_actor actor behind) next_split) (records plan limits feeds run linked version actor)) in
        stamp_above 0 (sent_to actor before) (e.source, post) given_next (for_actor actor front) e (for_actor actor behind) (count actor) r

    behind_is : (other : ℕ) → Behind plan limits feeds run linked version before post.stamp other
    behind_is other =
        let from : AreFrom e.stamp ((actor, e) ∷ behind) = ordered_behind front (actor, e) behind (subst AreOrdered whole (order_ascends run.actors)) in
        record {
          later = for_actor other ((actor, e) ∷ behind);
          all = split other ∙ ap (λ (xs : List Entry). xs ++ for_actor other ((actor, e) ∷ behind)) (sym (so_far other));
          greater = λ f i. let least = from_for e.stamp other ((actor, e) ∷ behind) from f i in let less = smaller in omega arith;
        }

    arrival_waits : Waits plan limits feeds before (event_of sent front (actor, e))
    arrival_waits =
        let one : OneOf e.source all_sources = entry_source actor e (subst (λ (es : List Entry). IsIn e es) (sym next_split) (IsIn-append_right e (for_actor actor front) (e ∷ for_actor actor behind) (inl refl))) in
        is_made plan limits feeds run linked version before actor e.source (length (sent_from e.source (sent_to actor before))) post behind_is
        (next_post plan limits feeds run linked version actor (sent_to actor before) given_next e.source post one (given_is actor (e ∷ for_actor actor behind) next_split))

  pub arrivals_wait : (front behind : List (ℕ × Entry)) → order ≡ front ++ behind → EachWaits plan limits feeds (arrivals_to front) (events_after sent front behind)
  arrivals_wait front [] whole = tt
  arrivals_wait front (arrival ∷ behind) whole =
      let later = arrivals_wait (front ++ arrival ∷ []) behind (whole ∙ sym (append_assoc front (arrival ∷ []) behind)) in
      (arrival_waits front arrival.0 arrival.1 behind whole, subst (λ (b : List Event). EachWaits plan limits feeds b (events_after sent (front ++ arrival ∷ []) behind)) (events_one_more sent [] front arrival) later)

  -- ---- the rests

  abbrev pub rests : List Event
  rests = of_each (rests_to plan feeds run) 0 run.actors

  pub rests_are : (actor : ℕ) → sent_to actor rests ≡ late actor
  rests_are actor = for_run (rests_to plan feeds run) actor run.actors

  -- what an actor is given by all events
  pub arrivals_are : (actor : ℕ) → sent_to actor (arrivals_to order) ≡ arrived (sent actor) (own actor)
  arrivals_are actor = sent_events sent actor [] order ∙ ap (λ (es : List Entry). arrived (sent actor) es) (order_is actor)

  -- the source of a rest is one of all
  rest_source : (actor : ℕ) (front behind : List Sent) (source : Source) (post : Stamped) → late actor ≡ front ++ (source, post) ∷ behind → OneOf source all_sources ⊎ NoneOf source all_sources → OneOf source all_sources
  rest_source actor front behind source next is (inl one) = one
  rest_source actor front behind source next is (inr none) = absurd (by (slice_get run.actors actor) is)
    where
      by : (o : Option ActorRun) → had (rests_to plan feeds run) actor o ≡ front ++ (source, next) ∷ behind → ⊥
      by None e = nothing_here front (source, next) behind e
      by (Some r) e =
          let no : sent_from source (rests_to plan feeds run actor r) ≡ [] = rests_none (sent actor) r.entries source (kind_types plan.kinds) all_sources none in
          nothing_here (sent_from source front) next (sent_from source behind) (sym no ∙ ap (sent_from source) e ∙ from_itself source next front behind)

  module _ (front : List Event) (actor : ℕ) (source : Source) (post : Stamped) (behind : List Event) (whole : rests ≡ front ++ (actor, (source, post)) ∷ behind) where
    abbrev event : Event
    event = (actor, (source, post))

    abbrev passed : List Event
    passed = arrivals_to order ++ front

    passed_is : (other : ℕ) → sent_to other passed ≡ arrived (sent other) (own other) ++ sent_to other front
    passed_is other = filter_map-append (if_to other) (arrivals_to order) front ∙ ap (λ (xs : List Sent). xs ++ sent_to other front) (arrivals_are other)

    late_is : (other : ℕ) → late other ≡ sent_to other front ++ sent_to other (event ∷ behind)
    late_is other = sym (rests_are other) ∙ ap (λ (xs : List Event). sent_to other xs) whole ∙ filter_map-append (if_to other) front (event ∷ behind)

    all_recorded : (other : ℕ) → (state_at plan limits feeds passed other).entries ≡ own other
    all_recorded other =
        let final : (after_all (setting_of plan other limits) start (arrived (sent other) (own other) ++ (sent_to other front ++ sent_to other (event ∷ behind)))).entries ≡ own other =
        ap (λ (xs : List Sent). (after_all (setting_of plan other limits) start (arrived (sent other) (own other) ++ xs)).entries) (sym (late_is other)) ∙ final_entries plan limits feeds run linked version other in
        ap (λ (xs : List Sent). (after_all (setting_of plan other limits) start xs).entries) (passed_is other)
        ∙ recorded_all (setting_of plan other limits) (arrived (sent other) (own other)) (sent_to other front) (sent_to other (event ∷ behind)) start (own other) (sym (length-arrived (sent other) [] (own other))) final

    late_next : late actor ≡ sent_to actor front ++ (source, post) ∷ sent_to actor behind
    late_next = late_is actor ∙ ap (λ (xs : List Sent). sent_to actor front ++ xs) (for_itself actor (source, post) behind)

    rest_given : given actor ≡ sent_to actor passed ++ (source, post) ∷ sent_to actor behind
    rest_given =
        ap (λ (xs : List Sent). arrived (sent actor) (own actor) ++ xs) late_next
        ∙ sym (append_assoc (arrived (sent actor) (own actor)) (sent_to actor front) ((source, post) ∷ sent_to actor behind))
        ∙ ap (λ (xs : List Sent). xs ++ (source, post) ∷ sent_to actor behind) (sym (passed_is actor))

    none_behind : (other : ℕ) → Behind plan limits feeds run linked version passed post.stamp other
    none_behind other = record { later = []; all = sym (append-nil (state_at plan limits feeds passed other).entries ∙ all_recorded other); greater = λ e i. absurd i }

    rest_waits : Waits plan limits feeds passed event
    rest_waits =
        let one : OneOf source all_sources = rest_source actor (sent_to actor front) (sent_to actor behind) source post late_next (one_or_none run.feeds (length plan.actors) source) in
        is_made plan limits feeds run linked version passed actor source (length (sent_from source (sent_to actor passed))) post none_behind
        (next_post plan limits feeds run linked version actor (sent_to actor passed) (sent_to actor behind) source post one rest_given)

  pub rests_wait : (front behind : List Event) → rests ≡ front ++ behind → EachWaits plan limits feeds (arrivals_to order ++ front) behind
  rests_wait front [] whole = tt
  rests_wait front (event ∷ behind) whole =
      let later = rests_wait (front ++ event ∷ []) behind (whole ∙ sym (append_assoc front (event ∷ []) behind)) in
      (rest_waits front event.0 event.1.0 event.1.1 behind whole, subst (λ (b : List Event). EachWaits plan limits feeds b behind) (sym (append_assoc (arrivals_to order) front (event ∷ []))) later)
