-- The expected run of a run that fits the plan fits it, and an accepted run is its own expected run, which is linked.
use Rattle.std.proofs.Common.{◌≡◌, ◌∙◌, ℕ, zero, suc, ◌+◌, ◌-◌, ◌^◌, ◌<◌, ◌≤◌, min, length, map, Bool, true, false, Option, None, Some, slice_get, refl, sym, subst, arith}
use Rattle.std.specs.Prelude.{List, ◌&&◌}
use Rattle.script_types.specs.declared.plan.Rule.{Rule}
use Rattle.fair_semantics.specs.Fair.{partials_of, setting_of}
use Rattle.fair_semantics.specs.Linked.{arrived, count_of, numbers_from, taken_from}
use Rattle.fair_semantics.specs.Step.{State, definitions_of, is_running, recorded_messages}
use Rattle.run_fit_law.specs.FitsLaw.{RulesFit}
use Rattle.run_fit_law.proofs.LateFitsLemmas.{late_counts_fit, late_in_order}
use Rattle.run_fit_law.proofs.LawLemmas.{AreSound, fair_sound, few_partials, small_left}
use Rattle.run_fit_law.proofs.RestLemmas.{cleared_count}
use Rattle.run_fit_law.proofs.SoundLemmas.{EntrySound, IsSound}
use Rattle.log_reader.proofs.ReadLemmas.{logs_are_one_run}
use Rattle.run_order_law.proofs.LawLemmas.{runs_are_schedules}
use Rattle.log_reader.specs.Log.{IsLogOf}
use Rattle.log_replay.specs.Check.{IsAcceptedLog, IsFirstFault, arrival_count}
use Rattle.log_replay.specs.Fault.{IsAccepted}
use Rattle.log_replay.specs.Law.{AcceptedIsExpected, AcceptedIsLinked, AcceptedIsScheduled, AllRulesFit, ExpectedFits}
use Rattle.log_replay.specs.Feeds.{feeds_shown}
use Rattle.log_replay.proofs.ExpectedFitsLemmas.{bare_fit, stamped_fit}
use Rattle.std.specs.List.{AllByRecursion}
use Rattle.std.specs.List.Sorted.{IsStrictlyIncreasing}
use Rattle.std.proofs.lemmas.List.{length-map}
use Rattle.join_base.specs.declared.message.Source.{Source}
use Rattle.join_base.specs.declared.message.Source.TheVariants.{Feed}
use Rattle.script_types.specs.declared.plan.Plan.{Plan}
use Rattle.script_types.specs.Typed.{IsTyped}
use Rattle.fair_semantics.specs.declared.run.ActorRun.{ActorRun}
use Rattle.fair_semantics.specs.declared.run.Run.{Run}
use Rattle.join_base.specs.Late.{Late}
use Rattle.join_base.specs.Late.{late_counts}
use Rattle.fair_semantics.specs.Fits.{ActorRunFits, EntryFits, LateFits, RunFits, source_place}
use Rattle.fair_semantics.proofs.ListLemmas.{each_in}
use Rattle.fair_semantics.proofs.StampLemmas.{found_in}
use Rattle.arrival_log.specs.LogText.{log_text}
use Rattle.log_replay.proofs.BackLemmas.{accepted_has_one_text, expected_is_linked}
use Rattle.run_order_law.specs.Sorted.{entries_in}
use Rattle.log_posts.specs.Lates.{count_where}
use Rattle.log_replay.specs.Expected.{bare, expected_actor, expected_late, expected_posts, expected_run, late_in, may_be_late, posts_beyond, read_entries, read_late, settled, some_late, stamps_sent, stepped}
use Rattle.log_replay.proofs.AcceptedLemmas.{each_mapped}
use Rattle.log_replay.proofs.ConverseLemmas.{count_numbers}
use Rattle.log_replay.proofs.FeedLemmas.{count_small}
use Rattle.log_replay.proofs.EndingLemmas.{settled_as, settled_entries, settled_late}

each_number : {X : Type 0} (P : X → Type 0) (f : ℕ → X) (begin n : ℕ) → ((k : ℕ) → begin ≤ k → k < begin + n → P (f k)) → AllByRecursion P (map f (numbers_from begin n))
each_number P f begin zero h = tt
each_number P f begin (suc n) h = (h begin (omega arith) (omega arith), each_number P f (begin + 1) n (λ k l m. h k (omega (arith, l)) (omega (arith, m))))

small_min : (n : ℕ) → min n (2 ^ 64 - 1) < 2 ^ 64
small_min n = omega arith

small_where : (b : Bool) (n : ℕ) → n < 2 ^ 64 → count_where b n < 2 ^ 64
small_where true n l = l
small_where false n l = omega arith

module _ (plan : Plan) (run : Run) (fit : RunFits plan run) (typed : IsTyped plan) where
  abbrev feeds : ℕ
  feeds = run.feeds

  pub read_fit : (actor : ℕ) → AllByRecursion (EntryFits plan run.version feeds) (read_entries run actor) × AllByRecursion (LateFits plan feeds) (read_late run actor)
  read_fit actor = by (slice_get run.actors actor) refl
    where
      by : (o : Option ActorRun) → slice_get run.actors actor ≡ o → AllByRecursion (EntryFits plan run.version feeds) (entries_in o) × AllByRecursion (LateFits plan feeds) (late_in o)
      by None e = (tt, tt)
      by (Some own) e = let own_fits = each_in (ActorRunFits plan run.version feeds) run.actors fit.each own (found_in run.actors actor own e) in (own_fits.entries, own_fits.late)

  module _ (actor : ℕ) (texts : RulesFit plan run.limits actor) where
    abbrev late : Late
    late = expected_late plan run actor

    abbrev end : State
    end = settled (stepped plan run actor) late

    abbrev rules : List Rule
    rules = (setting_of plan actor run.limits).rules

    sound : AreSound plan run.version rules × IsSound plan run.version feeds rules run.limits (stepped plan run actor)
    sound =
        fair_sound plan actor run.limits run.version feeds (map bare (read_entries run actor)) typed texts record { known = fit.version; replies = fit.replies } record { arrivals = fit.arrivals; partials = fit.partials }
        (bare_fit plan run.version feeds (read_entries run actor) (read_fit actor).0)

    of_feeds : length late.feeds ≡ feeds
    of_feeds = length-map (numbers_from 1 run.feeds) (λ k. count_where (may_be_late run.limits (stepped plan run actor)) (count_of (Feed k) (read_late run actor))) ∙ count_numbers 1 run.feeds

    of_actors : length late.actors ≡ length plan.actors
    of_actors = length-map (numbers_from 0 (length plan.actors)) (λ from. count_where (may_be_late run.limits (stepped plan run actor)) (posts_beyond plan run from actor)) ∙ count_numbers 0 (length plan.actors)

    small_feeds : AllByRecursion (λ n. n < 2 ^ 64) late.feeds
    small_feeds = each_mapped (λ n. n < 2 ^ 64) (λ k. count_where (may_be_late run.limits (stepped plan run actor)) (count_of (Feed k) (read_late run actor))) (λ k.
        small_where (may_be_late run.limits (stepped plan run actor)) (count_of (Feed k) (read_late run actor)) (let s = count_small plan feeds (Feed k) (read_late run actor) (read_fit actor).1 in omega (arith, s))) (numbers_from 1 run.feeds)

    small_actors : AllByRecursion (λ n. n < 2 ^ 64) late.actors
    small_actors = each_mapped (λ n. n < 2 ^ 64) (λ from. count_where (may_be_late run.limits (stepped plan run actor)) (posts_beyond plan run from actor)) (λ from.
        small_where (may_be_late run.limits (stepped plan run actor)) (posts_beyond plan run from actor) (small_min (length (expected_posts plan run from actor) - length (taken_from _ (read_entries run actor))))) (numbers_from 0 (length plan.actors))

    left_small : AllByRecursion (λ n. n < 2 ^ 32) end.live
    left_small = by (is_running (stepped plan run actor).ending && some_late late) refl
      where
        by : (b : Bool) → (is_running (stepped plan run actor).ending && some_late late) ≡ b → AllByRecursion (λ n. n < 2 ^ 32) end.live
        by true e = subst (λ (s : State). AllByRecursion (λ n. n < 2 ^ 32) s.live) (sym (settled_as (stepped plan run actor) late true e)) tt
        by false e = subst (λ (s : State). AllByRecursion (λ n. n < 2 ^ 32) s.live) (sym (settled_as (stepped plan run actor) late false e)) (small_left plan run.version feeds rules run.limits sound.0 (stepped plan run actor) sound.1)

    few : partials_of rules end ≤ 1000000
    few = by (is_running (stepped plan run actor).ending && some_late late) refl
      where
        by : (b : Bool) → (is_running (stepped plan run actor).ending && some_late late) ≡ b → partials_of rules end ≤ 1000000
        by true e =
            subst (λ (s : State). partials_of rules s ≤ 1000000) (sym (settled_as (stepped plan run actor) late true e))
            (omega (arith, cleared_count (recorded_messages (stepped plan run actor).entries) (definitions_of rules) sound.0.can_rest, length-map rules (λ (r : Rule). r.definition), sound.0.few))
        by false e = subst (λ (s : State). partials_of rules s ≤ 1000000) (sym (settled_as (stepped plan run actor) late false e)) (few_partials plan run.version feeds rules run.limits sound.0 (stepped plan run actor) sound.1)

    actor_fits : ActorRunFits plan run.version feeds (expected_actor plan run actor)
    actor_fits =
        let same : (stepped plan run actor).entries ≡ end.entries = sym (settled_entries (stepped plan run actor) late) in
        let counts : late ≡ end.late = sym (settled_late (stepped plan run actor) late) in
        record {
          entries = stamped_fit plan run.version feeds (arrived (stamps_sent plan run actor) (read_entries run actor)) end.entries (subst (AllByRecursion (EntrySound plan run.version feeds)) same sound.1.entries);
          late = subst (λ (l : Late). AllByRecursion (LateFits plan feeds) (late_counts l)) counts (late_counts_fit plan feeds late of_feeds of_actors small_feeds small_actors);
          in_order = subst (λ (l : Late). IsStrictlyIncreasing (map (λ (x : Source × ℕ). source_place feeds x.0) (late_counts l))) counts (late_in_order feeds late of_feeds);
          left = left_small;
          partials = omega (arith, few);
        }

pub expected_fits : ExpectedFits
expected_fits plan run typed texts fit = record {
  version = fit.version;
  replies = fit.replies;
  arrivals = fit.arrivals;
  partials = fit.partials;
  feeds = fit.feeds;
  actors = length-map (numbers_from 0 (length plan.actors)) (expected_actor plan run) ∙ count_numbers 0 (length plan.actors);
  each = each_number (ActorRunFits plan run.version run.feeds) (expected_actor plan run) 0 (length plan.actors) (λ k l m. actor_fits plan run fit typed k (texts k));
}

-- a log text has one run, and so an accepted one is its own expected run
pub accepted_is_expected : AcceptedIsExpected
accepted_is_expected plan run typed texts fit accepted =
    let other : Run = expected_run plan run in
    logs_are_one_run plan (log_text plan run) other run typed (record { fits = expected_fits plan run typed texts fit; text = sym (accepted_has_one_text plan run accepted) }) (record { fits = fit; text = refl })

pub accepted_is_linked : AcceptedIsLinked
accepted_is_linked plan run typed texts fit accepted = expected_is_linked plan run typed fit (accepted_is_expected plan run typed texts fit accepted) accepted

pub accepted_is_scheduled : AcceptedIsScheduled
accepted_is_scheduled plan run typed texts fit accepted version = runs_are_schedules plan run.limits (feeds_shown run) run (accepted_is_linked plan run typed texts fit accepted) version

-- what an accepted log tells of its run
pub accepted_log : (plan : Plan) (bytes : List ℕ) (run : Run) (found : Option ℕ) (count : ℕ) → IsTyped plan → IsLogOf plan bytes run → AllRulesFit plan run.limits → found ≡ None → IsFirstFault plan run found → count ≡ arrival_count run → IsAcceptedLog plan bytes count
accepted_log plan bytes run found count typed log texts none first counted =
    let accepted : IsAccepted plan run = subst (IsFirstFault plan run) none first in
    record {
      run = run;
      log = log;
      accepted = accepted;
      counted = counted;
      linked = accepted_is_linked plan run typed texts log.fits accepted;
      scheduled = accepted_is_scheduled plan run typed texts log.fits accepted;
    }
