-- Whatever a schedule brings to an actor has values in their ranges, where those of the feeds are, and so the run that
-- is shown fits.
use Rattle.std.proofs.Common.{◌≡◌, ◌∙◌, ◌⊎◌, inl, inr, ℕ, zero, suc, ◌+◌, ◌<◌, ◌≤◌, List, [], ◌∷◌, ◌++◌, length, map, Bool, true, false, Option, None, Some, slice_get, refl, ap, sym, subst, arith}
use Rattle.std.specs.Prelude.{if◌then◌else◌, ◌==◌, IfSome}
use Rattle.std.specs.List.{AllByRecursion, cons_option, filter_map, flat_map}
use Rattle.join_base.specs.declared.message.Message.{Message}
use Rattle.join_base.specs.declared.message.Stamped.{Stamped}
use Rattle.join_base.specs.declared.message.Source.{Source}
use Rattle.join_base.specs.declared.message.Source.TheVariants.{Feed, Actor}
use Rattle.script_types.specs.declared.plan.Plan.{Plan}
use Rattle.fair_semantics.specs.declared.run.Limits.{Limits}
use Rattle.fair_semantics.specs.declared.run.Effect.{Effect}
use Rattle.fair_semantics.specs.declared.run.Effect.TheVariants as effect
use Rattle.fair_semantics.specs.declared.run.Entry.{Entry}
use Rattle.fair_semantics.specs.declared.run.Firing.{Firing}
use Rattle.fair_semantics.specs.declared.run.ActorRun.{ActorRun}
use Rattle.fair_semantics.specs.Fair.{Sent, fair_run, run_of, setting_of}
use Rattle.fair_semantics.specs.Fits.{ActorRunFits, EffectFits, EntryFits, FiringFits, SourceFits, ValueFits}
use Rattle.fair_semantics.specs.Linked.{effect_for, entry_posts, feed_posts, firing_effects, numbers_from, post_for}
use Rattle.fair_semantics.specs.Schedule.{System}
use Rattle.fair_semantics.proofs.ListLemmas.{each_append, each_from}
use Rattle.run_order_law.proofs.EventLemmas.{Event, IsSystemAt, made, sent_from, sent_to, state_at}
use Rattle.fair_semantics.proofs.CountedLemmas.{Among}
use Rattle.run_fit_law.specs.FitsLaw.{SentFits}
use Rattle.run_fit_law.proofs.LawLemmas.{fair_run_fits}
use Rattle.schedule_law.specs.Reached.{FeedsFit, IsReached, IsServable, SchedulesAreLinked, ValuesFit}
use Rattle.schedule_law.proofs.LawLemmas.{EachAmong, among, at, count, events, linked, next_each}
use Rattle.schedule_law.proofs.ReachLemmas.{EachNext, IsNext}

-- a post whose message has values in their ranges
abbrev pub PostFine : Stamped → Type 0
PostFine post = ValuesFit post.message

one_of_them : (xs : List Stamped) (post : Stamped) (ys : List Stamped) → AllByRecursion PostFine (xs ++ post ∷ ys) → PostFine post
one_of_them [] post ys each = each.0
one_of_them (x ∷ xs) post ys each = one_of_them xs post ys each.1

feed_fine : (target : ℕ) (posts : List (ℕ × Message)) → AllByRecursion (λ (post : ℕ × Message). ValuesFit post.1) posts → AllByRecursion PostFine (filter_map (post_for target) posts)
feed_fine target [] each = tt
feed_fine target (post ∷ posts) each = by (post.0 == target) (feed_fine target posts each.1)
  where
    by : (b : Bool) → AllByRecursion PostFine (filter_map (post_for target) posts) → AllByRecursion PostFine (cons_option (if b then Some record { message = post.1; stamp = 0 } else None) (filter_map (post_for target) posts))
    by true later = (each.0, later)
    by false later = later

pub fed_fine : (target k : ℕ) (feeds : List (List (ℕ × Message))) → FeedsFit feeds → AllByRecursion PostFine (feed_posts target (slice_get feeds k))
fed_fine target k [] each = tt
fed_fine target zero (posts ∷ feeds) each = feed_fine target posts each.0
fed_fine target (suc k) (posts ∷ feeds) each = fed_fine target k feeds each.1

module _ (plan : Plan) where
  effects_fine : (target stamp : ℕ) (effects : List Effect) → AllByRecursion (EffectFits plan 2) effects → AllByRecursion PostFine (filter_map (effect_for target stamp) effects)
  effects_fine target stamp [] each = tt
  effects_fine target stamp (effect.Print line ∷ effects) each = effects_fine target stamp effects each.1
  effects_fine target stamp (effect.Reply number value ∷ effects) each = effects_fine target stamp effects each.1
  effects_fine target stamp (effect.Post to message ∷ effects) each = by (to == target) (effects_fine target stamp effects each.1)
    where
      by : (b : Bool) → AllByRecursion PostFine (filter_map (effect_for target stamp) effects) → AllByRecursion PostFine (cons_option (if b then Some record { message = message; stamp = stamp } else None) (filter_map (effect_for target stamp) effects))
      by true later = (each.0.1.values, later)
      by false later = later

  pub entry_fine : (feeds target : ℕ) (entry : Entry) → EntryFits plan 2 feeds entry → AllByRecursion PostFine (entry_posts target entry)
  entry_fine feeds target entry fit = by entry.firing fit.firing
    where
      by : (o : Option Firing) → IfSome o (FiringFits plan 2) → AllByRecursion PostFine (filter_map (effect_for target entry.stamp) (firing_effects o))
      by None h = tt
      by (Some firing) h = effects_fine target entry.stamp firing.effects h.effects

  entries_fine : (feeds target : ℕ) (entries : List Entry) → AllByRecursion (EntryFits plan 2 feeds) entries → AllByRecursion PostFine (flat_map (entry_posts target) entries)
  entries_fine feeds target [] each = tt
  entries_fine feeds target (entry ∷ entries) each = each_append PostFine (entry_posts target entry) (flat_map (entry_posts target) entries) (entry_fine feeds target entry each.0) (entries_fine feeds target entries each.1)

-- a message of a source of the run, with values in their ranges
pub record IsFine (plan : Plan) (feeds : ℕ) (sent : Sent) : Type 0 where
  pub source : SourceFits plan feeds sent.0
  pub values : ValuesFit sent.1.message

-- what the fair semantics makes of such messages fits
abbrev pub RunsFit : Plan → Limits → ℕ → Type 0
RunsFit plan limits feeds = (actor : ℕ) → actor < length plan.actors → (sent : List Sent) → AllByRecursion (IsFine plan feeds) sent → ActorRunFits plan 2 feeds (fair_run plan actor limits feeds sent)

module _ (plan : Plan) (limits : Limits) (feeds : List (List (ℕ × Message))) (law : RunsFit plan limits (length feeds)) (fine : FeedsFit feeds) where
  abbrev pub EventFine : Event → Type 0
  EventFine event = IsFine plan (length feeds) event.1

  abbrev pub EachFine : List Event → Type 0
  EachFine before = AllByRecursion EventFine before

  sent_fine : (actor : ℕ) (before : List Event) → EachFine before → AllByRecursion (IsFine plan (length feeds)) (sent_to actor before)
  sent_fine actor [] each = tt
  sent_fine actor (event ∷ before) each = by (actor == event.0) (sent_fine actor before each.1)
    where
      by : (b : Bool) → AllByRecursion (IsFine plan (length feeds)) (sent_to actor before) → AllByRecursion (IsFine plan (length feeds)) (cons_option (if b then Some event.1 else None) (sent_to actor before))
      by true later = (each.0, later)
      by false later = later

  made_fine : (before : List Event) → EachFine before → (source : Source) (target : ℕ) → Among (length feeds) (length plan.actors) source → AllByRecursion PostFine (made plan limits feeds before source target)
  made_fine before each (Feed zero) target a = tt
  made_fine before each (Feed (suc k)) target a = fed_fine target k feeds fine
  made_fine before each (Actor b) target a = entries_fine plan (length feeds) target (state_at plan limits feeds before b).entries (law b a (sent_to b before) (sent_fine b before each)).entries

  source_fits : (source : Source) → Among (length feeds) (length plan.actors) source → SourceFits plan (length feeds) source
  source_fits (Feed k) a = a
  source_fits (Actor b) a = a

  event_fine : (before : List Event) → EachFine before → (event : Event) → Among (length feeds) (length plan.actors) event.1.0 → IsNext plan limits feeds before event → EventFine event
  event_fine before each event a next = record {
    source = source_fits event.1.0 a;
    values = one_of_them (sent_from event.1.0 (sent_to event.0 before)) event.1.1 next.rest (subst (AllByRecursion PostFine) next.is (made_fine before each event.1.0 event.0 a));
  }

  pub each_fine : (before later : List Event) → EachFine before → EachAmong plan limits feeds later → EachNext plan limits feeds before later → EachFine later
  each_fine before [] each a next = tt
  each_fine before (event ∷ later) each a next =
      let here : EventFine event = event_fine before each event a.0 next.0 in
      (here, each_fine (before ++ event ∷ []) later (each_append EventFine before (event ∷ []) each (here, tt)) a.1 next.1)

  module _ (system : System) (before : List Event) (at : IsSystemAt plan limits feeds before system) (all : EachFine before) where
    abbrev shown_run : ℕ → ActorRun
    shown_run actor = run_of (setting_of plan actor limits).rules (system.state actor)

    pub fits_at : (actor : ℕ) → actor < length plan.actors → ActorRunFits plan 2 (length feeds) (shown_run actor)
    fits_at actor l =
        subst (λ (s : _). ActorRunFits plan 2 (length feeds) (run_of (setting_of plan actor limits).rules s)) (sym (at.state actor))
        (law actor l (sent_to actor before) (sent_fine actor before all))

    each_number : (from n : ℕ) → from + n ≤ length plan.actors → AllByRecursion (ActorRunFits plan 2 (length feeds)) (map shown_run (numbers_from from n))
    each_number from zero l = tt
    each_number from (suc n) l = (fits_at from (omega arith), each_number (from + 1) n (omega arith))

    pub runs_fit_at : AllByRecursion (ActorRunFits plan 2 (length feeds)) (map shown_run (numbers_from 0 (length plan.actors)))
    runs_fit_at = each_number 0 (length plan.actors) (omega arith)

  module _ (system : System) (reached : IsReached plan limits feeds system) where
    all_fine : EachFine (events plan limits feeds system reached)
    all_fine = each_fine [] (events plan limits feeds system reached) tt (among plan limits feeds system reached) (next_each plan limits feeds system reached)

    pub own_fits : (actor : ℕ) → actor < length plan.actors → ActorRunFits plan 2 (length feeds) (run_of (setting_of plan actor limits).rules (system.state actor))
    own_fits actor l = fits_at system (events plan limits feeds system reached) (at plan limits feeds system reached) all_fine actor l

    pub runs_fit : AllByRecursion (ActorRunFits plan 2 (length feeds)) (map (λ actor. run_of (setting_of plan actor limits).rules (system.state actor)) (numbers_from 0 (length plan.actors)))
    runs_fit = runs_fit_at system (events plan limits feeds system reached) (at plan limits feeds system reached) all_fine

-- ---- the law

pub runs_of : (plan : Plan) (limits : Limits) (feeds : List (List (ℕ × Message))) → IsServable plan limits feeds → RunsFit plan limits (length feeds)
runs_of plan limits feeds can actor l sent each =
    fair_run_fits plan actor limits 2 (length feeds) sent can.typed (can.rules actor l) (record { known = (omega arith, omega arith); replies = λ e. refl }) can.limited
    (each_from (IsFine plan (length feeds)) (SentFits plan (length feeds)) (λ s fine. record { source = fine.source; values = fine.values }) sent each)

pub schedules_are_linked : SchedulesAreLinked
schedules_are_linked plan limits feeds system can reached waits =
    linked plan limits feeds system reached waits record {
      version = (omega arith, omega arith);
      replies = λ e. refl;
      arrivals = can.limited.arrivals;
      partials = can.limited.partials;
      feeds = can.count;
      actors = count plan limits feeds system reached;
      each = runs_fit plan limits feeds (runs_of plan limits feeds can) can.values system reached;
    }
