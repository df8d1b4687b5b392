-- What is left of a system that a schedule reaches is no more than what the feeds and the limits make of the first one.
use Rattle.std.proofs.Common.{◌≡◌, ◌∙◌, ℕ, zero, suc, ◌+◌, ◌-◌, ◌*◌, ◌<◌, ◌≤◌, List, [], ◌∷◌, ◌++◌, length, map, Bool, true, false, Option, None, Some, slice_get, refl, ap, sym, subst, arith}
use Rattle.std.specs.Prelude.{if◌then◌else◌, ◌==◌, Contains}
use Rattle.std.specs.List.{AllByRecursion, cons_option, filter_map, sum_by}
use Rattle.std.specs.Option.{option_and_then}
use Rattle.std.proofs.lemmas.List.Sums.{sum_by-cons, sum_by-append}
use Rattle.join_base.specs.declared.message.Message.{Message}
use Rattle.join_base.specs.declared.message.Stamped.{Stamped}
use Rattle.join_base.specs.declared.message.Source.{Source}
use Rattle.join_base.specs.declared.message.Source.TheVariants.{Feed, Actor}
use Rattle.script_types.specs.declared.plan.Plan.{Plan}
use Rattle.script_types.specs.Typed.{IsTyped}
use Rattle.fair_semantics.specs.declared.run.Limits.{Limits}
use Rattle.fair_semantics.specs.Linked.{feed_posts, numbers_from, post_for, sources}
use Rattle.fair_semantics.specs.Schedule.{System, after_schedule, scheduled_step, system_at_first}
use Rattle.fair_semantics.proofs.CountedLemmas.{Among}
use Rattle.fair_semantics.proofs.ListLemmas.{each_map}
use Rattle.run_order_law.proofs.EventLemmas.{Event, pair_of}
use Rattle.run_order_law.proofs.SourceLemmas.{actor_among, contains_one, feed_among}
use Rattle.schedule_law.specs.Reached.{IsReached}
use Rattle.schedule_law.specs.WorkLeft.{arrivals_left, most_work, room_of, waiting_count, waiting_for, work_left}
use Rattle.schedule_law.proofs.LawLemmas.{pairs_among}
use Rattle.schedule_law.proofs.SumLemmas.{sum_map, sum_most, sum_none}
use Rattle.schedule_law.proofs.WorkLemmas.{steps_leave_less}

-- ---- along a schedule

pub known_source : (feeds actors : ℕ) (source : Source) → Among feeds actors source → Contains (sources feeds actors) source
known_source feeds actors (Feed k) a = contains_one (Feed k) (sources feeds actors) (feed_among feeds actors k a.0 a.1)
known_source feeds actors (Actor b) a = contains_one (Actor b) (sources feeds actors) (actor_among feeds actors b a)

module _ (plan : Plan) (limits : Limits) (feeds : ℕ) (typed : IsTyped plan) where
  -- of an actor of the plan and a source of the run
  abbrev IsOf : (ℕ × Source) → Type 0
  IsOf pair = (pair.0 < length plan.actors) × Among feeds (length plan.actors) pair.1

  along : (pairs : List (ℕ × Source)) (system end : System) → AllByRecursion IsOf pairs → after_schedule plan limits system pairs ≡ Some end → work_left plan limits feeds end + length pairs ≤ work_left plan limits feeds system
  along [] system end each steps = let same : system ≡ end = cc steps in subst (λ (s : System). work_left plan limits feeds s + 0 ≤ work_left plan limits feeds system) same (omega arith)
  along (pair ∷ pairs) system end each steps = by (scheduled_step plan limits system pair) refl steps (λ next. along pairs next end each.1)
    where
      by : (o : Option System) → scheduled_step plan limits system pair ≡ o → option_and_then (λ next. after_schedule plan limits next pairs) o ≡ Some end
          → ((next : System) → after_schedule plan limits next pairs ≡ Some end → work_left plan limits feeds end + length pairs ≤ work_left plan limits feeds next) → work_left plan limits feeds end + suc (length pairs) ≤ work_left plan limits feeds system
      by None is e later = absurd cc
      by (Some next) is e later =
          let here = steps_leave_less plan limits feeds system next pair.0 pair.1 typed each.0.0 (known_source feeds (length plan.actors) pair.1 each.0.1) is in
          let more = later next e in
          omega (arith, here, more)

-- ---- at first

module _ (plan : Plan) (limits : Limits) (feeds : List (List (ℕ × Message))) where
  few_for : (actor : ℕ) (posts : List (ℕ × Message)) → length (filter_map (post_for actor) posts) ≤ length posts
  few_for actor [] = omega arith
  few_for actor (post ∷ posts) = by (post.0 == actor) (few_for actor posts)
    where
      by : (b : Bool) → length (filter_map (post_for actor) posts) ≤ length posts → length (cons_option (if b then Some record { message = post.1; stamp = 0 } else None) (filter_map (post_for actor) posts)) ≤ suc (length posts)
      by true later = omega (arith, later)
      by false later = omega (arith, later)

  fed : (fs : List (List (ℕ × Message))) (actor start : ℕ) → (h : ℕ → List Stamped) → ((k : ℕ) → h (start + k) ≡ feed_posts actor (slice_get fs k)) → sum_by (λ k. length (h k)) (numbers_from start (length fs)) ≤ sum_by length fs
  fed [] actor start h is = omega arith
  fed (posts ∷ fs) actor start h is =
      let e : start ≡ start + 0 = omega arith in
      let here : length (h start) ≡ length (filter_map (post_for actor) posts) = ap length (ap h e ∙ is 0) in
      let few = few_for actor posts in
      let later = fed fs actor (start + 1) h (λ k. let n : start + 1 + k ≡ start + suc k = omega arith in ap h n ∙ is (suc k)) in
      let a = sum_by-cons (λ k. length (h k)) start (numbers_from (start + 1) (length fs)) in
      let b = sum_by-cons {X = List (ℕ × Message)} length posts fs in
      omega (arith, here, few, later, a, b)

  first_for : (actor : ℕ) → waiting_for plan (length feeds) (system_at_first plan feeds) actor ≤ sum_by length feeds
  first_for actor =
      let posts : Source → ℕ = λ source. length ((system_at_first plan feeds).waiting source actor) in
      let parts = sum_by-append posts (map (λ k. Feed k) (numbers_from 1 (length feeds))) (map (λ a. Actor a) (numbers_from 0 (length plan.actors))) in
      let first = sum_map posts (λ k. Feed k) (numbers_from 1 (length feeds)) in
      let few = fed feeds actor 1 (λ k. (system_at_first plan feeds).waiting (Feed k) actor) (λ k. let e : 1 + k ≡ suc k = omega arith in ap (λ (n : ℕ). (system_at_first plan feeds).waiting (Feed n) actor) e) in
      let second = sum_map posts (λ a. Actor a) (numbers_from 0 (length plan.actors)) ∙ sum_none (λ a. posts (Actor a)) (λ a. refl) (numbers_from 0 (length plan.actors)) in
      omega (arith, parts, first, few, second)

  at_most : (f : ℕ → ℕ) (most : ℕ) → ((k : ℕ) → f k ≤ most) → (start count : ℕ) → sum_by f (numbers_from start count) ≤ count * most
  at_most f most h start zero = omega arith
  at_most f most h start (suc count) =
      let here = h start in
      let later = at_most f most h (start + 1) count in
      let a = sum_by-cons f start (numbers_from (start + 1) count) in
      let b : suc count * most ≡ most + count * most = grind arith in
      omega (arith, here, later, a, b)

  first_work : work_left plan limits (length feeds) (system_at_first plan feeds) ≤ most_work plan limits feeds
  first_work =
      let n : ℕ = length plan.actors in
      let waiting = at_most (waiting_for plan (length feeds) (system_at_first plan feeds)) (sum_by length feeds) first_for 0 n in
      let room = at_most (room_of limits (system_at_first plan feeds)) limits.arrivals (λ k. omega arith) 0 n in
      let product : n * (sum_by length feeds + 17 * limits.arrivals) ≡ n * sum_by length feeds + 17 * (n * limits.arrivals) = grind arith in
      omega (arith, waiting, room, product)

  pub reached_work : IsTyped plan → (system : System) → IsReached plan limits feeds system → work_left plan limits (length feeds) system ≤ most_work plan limits feeds
  reached_work typed system reached =
      let each = along plan limits (length feeds) typed reached.pairs (system_at_first plan feeds) system (pairs_among plan limits feeds system reached) reached.steps in
      omega (arith, each, first_work)
