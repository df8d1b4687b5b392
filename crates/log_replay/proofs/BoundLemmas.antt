-- In a linked run whose feeds fit, each message that is under way fits and carries a stamp far below the greatest. So
-- what is behind an actor's arrivals is there only where it is full or has ended.
use Rattle.std.proofs.Common.{◌≡◌, ◌∙◌, ◌⊎◌, inl, inr, ℕ, zero, suc, ◌+◌, ◌*◌, ◌<◌, ◌≤◌, max, List, [], ◌∷◌, ◌++◌, length, length-append, map, drop, Bool, true, false, Option, None, Some, slice_get, refl, ap, sym, subst, arith}
use Rattle.std.specs.Prelude.{if◌then◌else◌, nat_le, not, ◌||◌, ◌==◌, IfSome}
use Rattle.std.specs.List.{AllByRecursion, cons_option, filter_map, flat_map}
use Rattle.std.proofs.lemmas.Bool.Decides.{nat_tests}
use Rattle.join_base.specs.Stamps.{greatest_stamp}
use Rattle.join_base.specs.declared.message.Message.{Message}
use Rattle.join_base.specs.declared.message.Stamped.{Stamped}
use Rattle.join_base.specs.declared.message.Source.{Source}
use Rattle.join_base.specs.declared.message.Source.TheVariants.{Feed, Actor}
use Rattle.join_base.proofs.EachLemmas.{each_drop, each_from_get}
use Rattle.pattern_core.specs.Members.{IsIn}
use Rattle.pattern_core.proofs.MembersLemmas.{IsIn-flat_map}
use Rattle.script_types.specs.declared.plan.Plan.{Plan}
use Rattle.script_types.specs.Typed.{kind_types}
use Rattle.fair_semantics.specs.declared.run.Effect.{Effect}
use Rattle.fair_semantics.specs.declared.run.Effect.TheVariants as effect
use Rattle.fair_semantics.specs.declared.run.Entry.{Entry}
use Rattle.fair_semantics.specs.declared.run.Firing.{Firing}
use Rattle.fair_semantics.specs.declared.run.ActorRun.{ActorRun}
use Rattle.fair_semantics.specs.declared.run.Run.{Run}
use Rattle.fair_semantics.specs.Step.{Setting, State, entry_with, fits, is_refused, is_running, latest_stamp}
use Rattle.fair_semantics.specs.Fair.{Sent, after_all, setting_of}
use Rattle.fair_semantics.specs.Fits.{ActorRunFits, EffectFits, EntryFits, FiringFits, PostFits}
use Rattle.fair_semantics.specs.Linked.{arrived_after, effect_for, entry_posts, feed_posts, firing_effects, post_for, posts_in, posts_of, rest_of, rests_in_order, sources, stamp_at, taken_from, IsLinked}
use Rattle.fair_semantics.specs.StampLaw.{arrivals_of}
use Rattle.fair_semantics.proofs.ChainLemmas.{adds}
use Rattle.fair_semantics.proofs.FairLemmas.{latest_stamp-more}
use Rattle.fair_semantics.proofs.ListLemmas.{each_append, each_in, each_map}
use Rattle.fair_semantics.proofs.StampLemmas.{found_in, stamps_are_few}
use Rattle.log_replay.proofs.BareLemmas.{next_of}
use Rattle.log_replay.proofs.TakenLemmas.{Taken, arrival_of, records}
use Rattle.log_replay.proofs.ActorLemmas.{before, before_count, came, entries_kept, few, rest, start, taken}
use Rattle.fair_semantics.proofs.RestLemmas.{each_in as each_rest, each_in_order, each_of_all}

-- no stamp of a run is greater than the number of all arrivals
abbrev pub most : ℕ
most = 32000000

pub sum_at_most : (runs : List ActorRun) → AllByRecursion (λ (r : ActorRun). length r.entries ≤ 1000000) runs → length (arrivals_of runs) ≤ length runs * 1000000
sum_at_most [] each = omega arith
sum_at_most (r ∷ runs) each =
    let later = sum_at_most runs each.1 in
    let sum : length (arrivals_of (r ∷ runs)) ≡ length r.entries + length (arrivals_of runs) = length-append r.entries (arrivals_of runs) in
    omega (arith, each.0)

pub one_or_two : (v : ℕ) → 1 ≤ v → v ≤ 2 → (v ≡ 1) ⊎ (v ≡ 2)
one_or_two zero a b = absurd (omega arith)
one_or_two (suc zero) a b = inl refl
one_or_two (suc (suc zero)) a b = inr refl
one_or_two (suc (suc (suc v))) a b = absurd (omega arith)

module _ (plan : Plan) where
  -- a message under way
  pub record Fine (post : Stamped) : Type 0 where
    pub fit : fits (kind_types plan.kinds) post.message ≡ true
    pub small : post.stamp ≤ most

  effects_fine : (version to stamp : ℕ) → stamp ≤ most → (effects : List Effect) → AllByRecursion (EffectFits plan version) effects → AllByRecursion Fine (filter_map (effect_for to stamp) effects)
  effects_fine version to stamp small [] each = tt
  effects_fine version to stamp small (effect.Print line ∷ effects) each = effects_fine version to stamp small effects each.1
  effects_fine version to stamp small (effect.Reply number value ∷ effects) each = effects_fine version to stamp small effects each.1
  effects_fine version to stamp small (effect.Post target message ∷ effects) each = by (target == to) (effects_fine version to stamp small effects each.1)
    where
      by : (b : Bool) → AllByRecursion Fine (filter_map (effect_for to stamp) effects) → AllByRecursion Fine (cons_option (if b then Some record { message = message; stamp = stamp } else None) (filter_map (effect_for to stamp) effects))
      by true later = (record { fit = each.0.1.kind; small = small }, later)
      by false later = later

  firing_fine : (version to stamp : ℕ) → stamp ≤ most → (o : Option Firing) → IfSome o (FiringFits plan version) → AllByRecursion Fine (filter_map (effect_for to stamp) (firing_effects o))
  firing_fine version to stamp small None h = tt
  firing_fine version to stamp small (Some f) h = effects_fine version to stamp small f.effects h.effects

  entries_fine : (version feeds to : ℕ) (entries : List Entry) → AllByRecursion (EntryFits plan version feeds) entries → ((e : Entry) → IsIn e entries → e.stamp ≤ most) → AllByRecursion Fine (flat_map (entry_posts to) entries)
  entries_fine version feeds to [] each small = tt
  entries_fine version feeds to (e ∷ entries) each small =
      each_append Fine (entry_posts to e) (flat_map (entry_posts to) entries) (firing_fine version to e.stamp (small e (inl refl)) e.firing each.0.firing) (entries_fine version feeds to entries each.1 (λ y h. small y (inr h)))

  feed_fine : (actor : ℕ) (posts : List (ℕ × Message)) → AllByRecursion (PostFits plan) posts → AllByRecursion Fine (feed_posts actor (Some posts))
  feed_fine actor [] each = tt
  feed_fine actor (post ∷ posts) each = by (post.0 == actor) (feed_fine actor posts each.1)
    where
      by : (b : Bool) → AllByRecursion Fine (filter_map (post_for actor) posts) → AllByRecursion Fine (cons_option (if b then Some record { message = post.1; stamp = 0 } else None) (filter_map (post_for actor) posts))
      by true later = (record { fit = each.0.message.kind; small = omega arith }, later)
      by false later = later

  some_feed_fine : (actor k : ℕ) (feeds : List (List (ℕ × Message))) → AllByRecursion (AllByRecursion (PostFits plan)) feeds → AllByRecursion Fine (feed_posts actor (slice_get feeds k))
  some_feed_fine actor k [] each = tt
  some_feed_fine actor zero (posts ∷ feeds) each = feed_fine actor posts each.0
  some_feed_fine actor (suc k) (posts ∷ feeds) each = some_feed_fine actor k feeds each.1

  carried_small : (posts : List Stamped) (k : ℕ) → AllByRecursion Fine posts → stamp_at (slice_get posts k) ≤ most
  carried_small [] k each = omega arith
  carried_small (post ∷ posts) zero each = each.0.small
  carried_small (post ∷ posts) (suc k) each = carried_small posts k each.1

  abbrev FineSent : Sent → Type 0
  FineSent s = Fine s.1

  pub arrived_small : (posts : Source → List Stamped) → ((source : Source) → AllByRecursion Fine (posts source)) → (earlier entries : List Entry) → AllByRecursion (λ (s : Sent). s.1.stamp ≤ most) (arrived_after posts earlier entries)
  arrived_small posts each earlier [] = tt
  arrived_small posts each earlier (e ∷ entries) = (carried_small (posts e.source) (length (taken_from e.source earlier)) (each e.source), arrived_small posts each (earlier ++ e ∷ []) entries)

  pub latest_small : (setting : Setting) (sent : List Sent) (state : State) → Taken setting state sent → AllByRecursion (λ (s : Sent). s.1.stamp ≤ most) sent → latest_stamp state.entries ≤ most + length state.entries → latest_stamp (after_all setting state sent).entries ≤ most + length (after_all setting state sent).entries
  latest_small setting [] state t each l = l
  latest_small setting (s ∷ sent) state t each l =
      let h = records setting state s t.0 t.1.0 in
      let entry : Entry = entry_with (arrival_of state s) h.0 in
      let next : State = next_of setting state s in
      let more : length next.entries ≡ length state.entries + 1 = ap length h.1.0 ∙ length-append state.entries (entry ∷ []) in
      let last : latest_stamp next.entries ≡ max (latest_stamp state.entries) s.1.stamp + 1 = ap latest_stamp h.1.0 ∙ latest_stamp-more state.entries entry in
      latest_small setting sent next t.1.1 each.1 (omega (arith, each.0))

  module _ (feeds : List (List (ℕ × Message))) (run : Run) (linked : IsLinked plan run.limits feeds run) (few_actors : length plan.actors ≤ 32) (fit : AllByRecursion (AllByRecursion (PostFits plan)) feeds) where
    few_arrivals : length (arrivals_of run.actors) ≤ most
    few_arrivals =
        let limit = linked.fits_plan.arrivals.1 in
        let each = each_from_get (λ (r : ActorRun). length r.entries ≤ 1000000) run.actors (λ k r e. let n = few plan feeds run linked k r e in omega (arith, n, limit)) in
        let sum = sum_at_most run.actors each in
        omega (arith, sum, linked.fits_plan.actors)

    pub actor_fits : (actor : ℕ) (own : ActorRun) → slice_get run.actors actor ≡ Some own → ActorRunFits plan run.version run.feeds own
    actor_fits actor own there = each_in (ActorRunFits plan run.version run.feeds) run.actors linked.fits_plan.each own (found_in run.actors actor own there)

    stamps_small : (actor : ℕ) (own : ActorRun) → slice_get run.actors actor ≡ Some own → (e : Entry) → IsIn e own.entries → e.stamp ≤ most
    stamps_small actor own there e h =
        elim (one_or_two run.version linked.fits_plan.version.0 linked.fits_plan.version.1) [
          | inl first ↦ let f = each_in (EntryFits plan run.version run.feeds) own.entries (actor_fits actor own there).entries e h in let none = f.stamp.first first in omega (arith, none)
          | inr second ↦
              let all = stamps_are_few plan run.limits feeds run linked second e (IsIn-flat_map (λ (x : ActorRun). x.entries) own e run.actors (found_in run.actors actor own there) h) in
              omega (arith, all, few_arrivals)
        ]

    posts_fine : (to : ℕ) (source : Source) → AllByRecursion Fine (posts_of feeds run.actors source to)
    posts_fine to (Feed zero) = tt
    posts_fine to (Feed (suc k)) = some_feed_fine to k feeds fit
    posts_fine to (Actor from) = by (slice_get run.actors from) refl
      where
        by : (o : Option ActorRun) → slice_get run.actors from ≡ o → AllByRecursion Fine (posts_in to o)
        by None e = tt
        by (Some own) e = entries_fine run.version run.feeds to own.entries (actor_fits from own e).entries (stamps_small from own e)

    module _ (actor : ℕ) (own : ActorRun) (there : slice_get run.actors actor ≡ Some own) where
      abbrev posts : Source → List Stamped
      posts source = posts_of feeds run.actors source actor

      rest_fine : AllByRecursion FineSent (rest plan feeds run linked actor own there)
      rest_fine =
          each_rest FineSent (rests_in_order (kind_types plan.kinds) (map (rest_of posts own.entries) (sources run.feeds (length plan.actors))))
          (each_in_order (AllByRecursion FineSent) (kind_types plan.kinds) (map (rest_of posts own.entries) (sources run.feeds (length plan.actors)))
          (each_of_all (AllByRecursion FineSent) (rest_of posts own.entries) (sources run.feeds (length plan.actors)) (λ source c. of_source source)))
        where
          of_source : (source : Source) → AllByRecursion FineSent (rest_of posts own.entries source)
          of_source source = each_map Fine FineSent (λ post. (source, post)) (λ post f. f) (drop (length (taken_from source own.entries)) (posts source)) (each_drop Fine (posts source) (length (taken_from source own.entries)) (posts_fine actor source))

      -- a running actor that leaves a message behind is full
      pub full : (first : Sent) (more : List Sent) → rest plan feeds run linked actor own there ≡ first ∷ more → is_running (before plan feeds run linked actor own there).ending ≡ true
          → (nat_le run.limits.arrivals (length (before plan feeds run linked actor own there).entries) ≡ true) × (is_refused (setting_of plan actor run.limits) (before plan feeds run linked actor own there) first.1.message first.1.stamp ≡ true)
      full first more is running = by (is_refused setting state first.1.message first.1.stamp) refl
        where
          setting : Setting
          setting = setting_of plan actor run.limits

          state : State
          state = before plan feeds run linked actor own there

          first_true : (a b c : Bool) → (a || (b || c)) ≡ true → b ≡ false → c ≡ false → a ≡ true
          first_true true b c e p q = refl
          first_true false b c e p q = absurd cc

          below : (n m : ℕ) → m < n → nat_le n m ≡ false
          below n m e = grind (arith, nat_tests)

          not_true : (b : Bool) → b ≡ true → not b ≡ false
          not_true b e = ap not e

          by : (b : Bool) → is_refused setting state first.1.message first.1.stamp ≡ b → (nat_le run.limits.arrivals (length state.entries) ≡ true) × (is_refused setting state first.1.message first.1.stamp ≡ true)
          by false e =
              let h = records setting state first running e in
              let next : State = next_of setting state first in
              let one : length next.entries ≡ length state.entries + 1 = ap length h.1.0 ∙ length-append state.entries _ in
              let a = adds setting more next in
              let sum : length (after_all setting next more).entries ≡ length next.entries + length a.new = ap length a.entries_are ∙ length-append next.entries a.new in
              let all : length (after_all setting state (first ∷ more)).entries ≡ length state.entries = ap (λ (xs : List Sent). length (after_all setting state xs).entries) (sym is) ∙ ap length (entries_kept plan feeds run linked actor own there) in
              absurd (omega (arith, one, sum, all))
          by true e =
              let f : AllByRecursion FineSent (first ∷ more) = subst (λ (xs : List Sent). AllByRecursion FineSent xs) is rest_fine in
              let sent : List Sent = came plan feeds run linked actor own there in
              let latest = latest_small setting sent (start plan feeds run linked) (taken plan feeds run linked actor own there) (arrived_small posts (posts_fine actor) [] own.entries) (omega arith) in
              let counted = few plan feeds run linked actor own there in
              let kept = before_count plan feeds run linked actor own there in
              let limit = linked.fits_plan.arrivals.1 in
              let small : nat_le greatest_stamp (max (latest_stamp state.entries) first.1.stamp) ≡ false = below greatest_stamp (max (latest_stamp state.entries) first.1.stamp) (omega (arith, latest, counted, kept, limit, f.0.small)) in
              (first_true (nat_le run.limits.arrivals (length state.entries)) (not (fits setting.sorts first.1.message)) (nat_le greatest_stamp (max (latest_stamp state.entries) first.1.stamp)) e (not_true (fits setting.sorts first.1.message) f.0.fit) small, e)
