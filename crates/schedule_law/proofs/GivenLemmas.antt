-- A system whose actors were each given some messages stands as if it had been reached: the values of the messages are
-- in their ranges, since a post carries the stamp of its entry, and that is above those of the messages before it.
use Rattle.std.proofs.Common.{◌≡◌, ◌∙◌, ◌⊎◌, inl, inr, ℕ, zero, suc, ◌+◌, ◌<◌, ◌≤◌, max, List, [], ◌∷◌, ◌++◌, length, map, Bool, true, false, Option, None, Some, slice_get, refl, ap, sym, subst, arith}
use Rattle.std.specs.Prelude.{◌==◌, if◌then◌else◌}
use Rattle.std.specs.List.{AllByRecursion, cons_option, flat_map}
use Rattle.std.proofs.lemmas.Bool.{cases_lt}
use Rattle.std.proofs.lemmas.List.{append-nil}
use Rattle.std.proofs.lemmas.List.Elements.{filter_map-append}
use Rattle.join_base.specs.declared.message.Message.{Message}
use Rattle.join_base.specs.declared.message.Stamped.{Stamped}
use Rattle.join_base.specs.declared.message.Source.{Source}
use Rattle.join_base.specs.declared.message.Source.TheVariants.{Feed, Actor}
use Rattle.pattern_core.specs.Members.{IsIn}
use Rattle.pattern_core.proofs.MembersLemmas.{IsIn-append_cases, IsIn-append_left, IsIn-flat_map_from}
use Rattle.script_types.specs.declared.plan.Plan.{Plan}
use Rattle.fair_semantics.specs.declared.run.Entry.{Entry}
use Rattle.fair_semantics.specs.declared.run.Limits.{Limits}
use Rattle.fair_semantics.specs.Step.{Setting, State, fair_step, latest_stamp, opening}
use Rattle.fair_semantics.specs.Fair.{Sent, after_all, fair, setting_of}
use Rattle.fair_semantics.specs.Fits.{EntryFits, SourceFits}
use Rattle.fair_semantics.specs.Linked.{entry_posts, feed_posts, firing_effects, numbers_from, same_source}
use Rattle.fair_semantics.specs.Schedule.{System}
use Rattle.fair_semantics.proofs.ChainLemmas.{Records, adds}
use Rattle.fair_semantics.proofs.CountedLemmas.{Among}
use Rattle.fair_semantics.proofs.ListLemmas.{each_append}
use Rattle.fair_semantics.proofs.StampLemmas.{posted_stamp}
use Rattle.fair_semantics.proofs.FairLemmas.{after_all-append}
use Rattle.run_order_law.proofs.EventLemmas.{Event, IsSystemAt, for_actor, if_to, made, sent_from, sent_to, state_at}
use Rattle.run_order_law.proofs.ListLemmas.{each_in}
use Rattle.run_order_law.proofs.OrderLemmas.{for_other, for_same, with_it}
use Rattle.run_order_law.proofs.SourceLemmas.{itself, not_equal, is_itself}
use Rattle.schedule_law.specs.Given.{GivenIsLinked, IsGiven, came_from, if_from, sent_by}
use Rattle.schedule_law.specs.Reached.{IsServable, ValuesFit}
use Rattle.schedule_law.proofs.FitLemmas.{EventFine, IsFine, PostFine, RunsFit, entry_fine, fed_fine, runs_of}
use Rattle.schedule_law.proofs.StandingLemmas.{IsStanding, standing_linked, stands_after}

-- ---- stamps of entries that are added

rising : (latest : ℕ) (sent : List Sent) (new : List Entry) → Records latest sent new → (e : Entry) → IsIn e new → latest < e.stamp
rising latest sent [] r e i = absurd i
rising latest [] (x ∷ new) r e i = absurd r
rising latest (s ∷ sent) (x ∷ new) r e (inl same) = let stamp = r.0.stamp in let is : x.stamp ≡ e.stamp = ap (λ (y : Entry). y.stamp) same in omega (arith, stamp, is)
rising latest (s ∷ sent) (x ∷ new) r e (inr i) = let stamp = r.0.stamp in let later = rising x.stamp sent new r.1 e i in omega (arith, stamp, later)

above : (latest bound : ℕ) (s : Sent) (sent : List Sent) (new : List Entry) → bound ≤ s.1.stamp → Records latest (s ∷ sent) new → (e : Entry) → IsIn e new → bound < e.stamp
above latest bound s sent [] l r e i = absurd i
above latest bound s sent (x ∷ new) l r e (inl same) = let stamp = r.0.stamp in let is : x.stamp ≡ e.stamp = ap (λ (y : Entry). y.stamp) same in omega (arith, l, stamp, is)
above latest bound s sent (x ∷ new) l r e (inr i) = let stamp = r.0.stamp in let later = rising x.stamp sent new r.1 e i in omega (arith, l, stamp, later)

-- ---- messages from a source

pub in_from : (source : Source) (xs : List Sent) (s : Sent) → IsIn s xs → s.0 ≡ source → IsIn s.1 (came_from source xs)
in_from source [] s i e = absurd i
in_from source (x ∷ xs) s (inl same) e =
    let here : same_source x.0 source ≡ true = ap (λ (y : Sent). same_source y.0 source) same ∙ ap (λ (t : Source). same_source t source) e ∙ itself source in
    subst (λ (b : Bool). IsIn s.1 (cons_option (if b then Some x.1 else None) (came_from source xs))) (sym here) (inl (ap (λ (y : Sent). y.1) same))
in_from source (x ∷ xs) s (inr i) e = by (same_source x.0 source) (in_from source xs s i e)
  where
    by : (b : Bool) → IsIn s.1 (came_from source xs) → IsIn s.1 (cons_option (if b then Some x.1 else None) (came_from source xs))
    by true later = inr later
    by false later = later

module _ (plan : Plan) (limits : Limits) (feeds : List (List (ℕ × Message))) (can : IsServable plan limits feeds) (given : ℕ → List Sent) (system : System) (is : IsGiven plan limits feeds given system) where
  abbrev law : RunsFit plan limits (length feeds)
  law = runs_of plan limits feeds can

  abbrev Fine : Sent → Type 0
  Fine s = IsFine plan (length feeds) s

  -- ---- values are in their ranges

  entry_fits : (bound actor : ℕ) → actor < length plan.actors → (before xs : List Sent) → AllByRecursion Fine before → ((s : Sent) → IsIn s xs → s.1.stamp < bound → Fine s)
      → (e : Entry) → IsIn e (after_all (setting_of plan actor limits) (fair plan actor limits (length feeds) before) xs).entries → e.stamp ≤ bound → EntryFits plan 2 (length feeds) e
  entry_fits bound actor l before [] fine below e i m = each_in (EntryFits plan 2 (length feeds)) (fair plan actor limits (length feeds) before).entries (law actor l before fine).entries e i
  entry_fits bound actor l before (s ∷ xs) fine below e i m =
      elim (cases_lt s.1.stamp bound) [
        | inl less ↦
            let next = after_all-append (setting_of plan actor limits) (opening (length feeds) (length plan.actors)) before (s ∷ []) in
            entry_fits bound actor l (before ++ s ∷ []) xs (each_append Fine before (s ∷ []) fine (below s (inl refl) less, tt)) (λ t j. below t (inr j)) e
            (subst (λ (state : State). IsIn e (after_all (setting_of plan actor limits) state xs).entries) (sym next) i) m
        | inr more ↦
            let a = adds (setting_of plan actor limits) (s ∷ xs) (fair plan actor limits (length feeds) before) in
            elim (IsIn-append_cases e (fair plan actor limits (length feeds) before).entries a.new (subst (λ (es : List Entry). IsIn e es) a.entries_are i)) [
              | inl old ↦ each_in (EntryFits plan 2 (length feeds)) (fair plan actor limits (length feeds) before).entries (law actor l before fine).entries e old
              | inr new ↦
                  let higher = above (latest_stamp (fair plan actor limits (length feeds) before).entries) bound s xs a.new more a.records e new in
                  absurd (omega (arith, higher, m))
            ]
      ]

  -- those of all messages that carry a stamp below this one
  abbrev Below : ℕ → Type 0
  Below bound = (actor : ℕ) → actor < length plan.actors → (s : Sent) → IsIn s (given actor) → s.1.stamp < bound → Fine s

  came : (actor : ℕ) (s : Sent) → IsIn s (given actor) → IsIn s.1 (sent_by feeds system s.0 actor)
  came actor s i = subst (λ (posts : List Stamped). IsIn s.1 posts) (is.links s.0 actor) (IsIn-append_left s.1 (came_from s.0 (given actor)) (system.waiting s.0 actor) (in_from s.0 (given actor) s i refl))

  post_fine : (bound : ℕ) → Below bound → (source : Source) → SourceFits plan (length feeds) source → (actor : ℕ) (post : Stamped) → IsIn post (sent_by feeds system source actor) → post.stamp < bound + 1 → ValuesFit post.message
  post_fine bound below (Feed zero) known actor post i m = absurd i
  post_fine bound below (Feed (suc k)) known actor post i m = each_in PostFine (feed_posts actor (slice_get feeds k)) (fed_fine actor k feeds can.values) post i
  post_fine bound below (Actor b) known actor post i m =
      let r = IsIn-flat_map_from (entry_posts actor) post (system.state b).entries i in
      let stamp = posted_stamp actor r.0.stamp (firing_effects r.0.firing) post r.2 in
      let here : IsIn r.0 (fair plan b limits (length feeds) (given b)).entries = subst (λ (state : State). IsIn r.0 state.entries) (is.state b) r.1 in
      let fits = entry_fits bound b known [] (given b) tt (below b known) r.0 here (omega (arith, stamp, m)) in
      each_in PostFine (entry_posts actor r.0) (entry_fine plan (length feeds) actor r.0 fits) post r.2

  all_below : (bound : ℕ) → Below bound
  all_below zero actor l s i m = absurd (omega (arith, m))
  all_below (suc bound) actor l s i m =
      let known = each_in (λ (sent : Sent). SourceFits plan (length feeds) sent.0) (given actor) (is.known actor) s i in
      record { source = known; values = post_fine bound (all_below bound) s.0 known actor s.1 (came actor s i) (omega (arith, m)) }

  fine : (actor : ℕ) → actor < length plan.actors → (s : Sent) → IsIn s (given actor) → Fine s
  fine actor l s i = all_below (s.1.stamp + 1) actor l s i (omega arith)

  -- ---- as events, actor by actor

  abbrev own_events : ℕ → List Event
  own_events actor = map (with_it actor) (given actor)

  abbrev events_from : ℕ → ℕ → List Event
  events_from start count = flat_map own_events (numbers_from start count)

  abbrev events : List Event
  events = events_from 0 (length plan.actors)

  none_for : (actor start count : ℕ) → (actor < start) ⊎ (start + count ≤ actor) → sent_to actor (events_from start count) ≡ []
  none_for actor start zero o = refl
  none_for actor start (suc count) (inl l) =
      filter_map-append (if_to actor) (own_events start) (events_from (start + 1) count)
      ∙ (λ i. for_other actor start (given start) (not_equal actor start (inl l)) i ++ none_for actor (start + 1) count (inl (omega (arith, l))) i)
  none_for actor start (suc count) (inr l) =
      filter_map-append (if_to actor) (own_events start) (events_from (start + 1) count)
      ∙ (λ i. for_other actor start (given start) (not_equal actor start (inr (omega (arith, l)))) i ++ none_for actor (start + 1) count (inr (omega (arith, l))) i)

  all_for : (actor start count : ℕ) → start ≤ actor → actor < start + count → sent_to actor (events_from start count) ≡ given actor
  all_for actor start zero l m = absurd (omega (arith, l, m))
  all_for actor start (suc count) l m =
      elim (cases_lt start actor) [
        | inl less ↦
            filter_map-append (if_to actor) (own_events start) (events_from (start + 1) count)
            ∙ (λ i. for_other actor start (given start) (not_equal actor start (inr less)) i ++ all_for actor (start + 1) count (omega (arith, less)) (omega (arith, m)) i)
        | inr more ↦
            let same : start ≡ actor = omega (arith, l, more) in
            let here : (actor == start) ≡ true = subst (λ (n : ℕ). (actor == n) ≡ true) (sym same) (is_itself actor) in
            filter_map-append (if_to actor) (own_events start) (events_from (start + 1) count)
            ∙ (λ i. for_same actor start (given start) here i ++ none_for actor (start + 1) count (inl (omega (arith, same))) i)
            ∙ append-nil (given start) ∙ ap given same
      ]

  sent_is : (actor : ℕ) → sent_to actor events ≡ given actor
  sent_is actor =
      elim (cases_lt actor (length plan.actors)) [
        | inl within ↦ all_for actor 0 (length plan.actors) (omega arith) (omega (arith, within))
        | inr past ↦ none_for actor 0 (length plan.actors) (inr (omega (arith, past))) ∙ sym (is.none actor past)
      ]

  state_is : (actor : ℕ) → system.state actor ≡ state_at plan limits feeds events actor
  state_is actor = is.state actor ∙ ap (after_all (setting_of plan actor limits) (opening (length feeds) (length plan.actors))) (sym (sent_is actor))

  made_is : (source : Source) (target : ℕ) → sent_by feeds system source target ≡ made plan limits feeds events source target
  made_is (Feed zero) target = refl
  made_is (Feed (suc k)) target = refl
  made_is (Actor a) target = ap (λ (state : State). flat_map (entry_posts target) state.entries) (state_is a)

  at : IsSystemAt plan limits feeds events system
  at = record {
    state = state_is;
    links = λ source target. ap (λ (xs : List Sent). sent_from source xs ++ system.waiting source target) (sent_is target) ∙ is.links source target ∙ made_is source target;
  }

  each_own : (P : Event → Type 0) (actor : ℕ) (xs : List Sent) → ((s : Sent) → IsIn s xs → P (actor, s)) → AllByRecursion P (map (with_it actor) xs)
  each_own P actor [] h = tt
  each_own P actor (s ∷ xs) h = (h s (inl refl), each_own P actor xs (λ t i. h t (inr i)))

  each_event : (P : Event → Type 0) → ((actor : ℕ) → actor < length plan.actors → (s : Sent) → IsIn s (given actor) → P (actor, s)) → (start count : ℕ) → start + count ≤ length plan.actors → AllByRecursion P (events_from start count)
  each_event P h start zero l = tt
  each_event P h start (suc count) l =
      each_append P (own_events start) (events_from (start + 1) count) (each_own P start (given start) (h start (omega (arith, l)))) (each_event P h (start + 1) count (omega (arith, l)))

  among : (source : Source) → SourceFits plan (length feeds) source → Among (length feeds) (length plan.actors) source
  among (Feed k) h = h
  among (Actor a) h = h

  pub standing : IsStanding plan limits feeds can system
  standing =
      let n : ℕ = length plan.actors in
      record {
        events = events;
        of_actors = each_event (λ (event : Event). event.0 < length plan.actors) (λ actor l s i. l) 0 n (omega arith);
        among = each_event (λ (event : Event). Among (length feeds) (length plan.actors) event.1.0) (λ actor l s i. among s.0 (fine actor l s i).source) 0 n (omega arith);
        at = at;
        fine = each_event (EventFine plan limits feeds (runs_of plan limits feeds can) can.values) fine 0 n (omega arith);
      }

pub given_is_linked : GivenIsLinked
given_is_linked plan limits feeds given system end pairs can is actors steps waits =
    standing_linked plan limits feeds can end (stands_after plan limits feeds can system end pairs (standing plan limits feeds can given system is) actors steps) waits
