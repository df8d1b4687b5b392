-- A linked run is its own expected run.
use Rattle.std.proofs.Common.{◌≡◌, ◌∙◌, ℕ, ◌+◌, ◌-◌, ◌^◌, ◌<◌, ◌≤◌, min, List, [], ◌∷◌, length, map, drop, Bool, true, false, Some, slice_get, refl, ap, sym, arith}
use Rattle.std.specs.Prelude.{nat_le, not}
use Rattle.std.specs.List.{AllByRecursion}
use Rattle.std.proofs.lemmas.List.{length-map, length-drop}
use Rattle.join_base.specs.declared.message.Message.{Message}
use Rattle.join_base.specs.declared.message.Stamped.{Stamped}
use Rattle.join_base.specs.declared.message.Source.{Source}
use Rattle.join_base.specs.declared.message.Source.TheVariants.{Feed, Actor}
use Rattle.pattern_core.specs.Matches.{partial_count}
use Rattle.script_types.specs.declared.plan.Plan.{Plan}
use Rattle.script_types.specs.Typed.{kind_types}
use Rattle.fair_semantics.specs.declared.run.Ending.{Ending}
use Rattle.fair_semantics.specs.declared.run.Ending.TheVariants as ending
use Rattle.fair_semantics.specs.declared.run.ActorRun.{ActorRun}
use Rattle.fair_semantics.specs.declared.run.Run.{Run}
use Rattle.join_base.specs.Late.{Late}
use Rattle.fair_semantics.specs.Step.{Setting, State, definitions_of, is_running, recorded_messages}
use Rattle.join_base.specs.Late.{late_counts}
use Rattle.fair_semantics.specs.Fair.{Sent, after_all, partials_of, setting_of}
use Rattle.fair_semantics.specs.Fits.{PostFits}
use Rattle.fair_semantics.specs.Linked.{arrived, count_of, numbers_from, posts_of, rest_of, rests_in_order, sources, taken_from, unstamped_entry, IsLinked}
use Rattle.run_order_law.specs.Sorted.{entries_in}
use Rattle.log_posts.specs.Lates.{count_where}
use Rattle.log_replay.specs.Expected.{expected_actor, expected_late, expected_run, late_in, may_be_late, posts_beyond, read_entries, read_late, settled, some_late, stamped_in, stamps_sent, stepped}
use Rattle.log_replay.proofs.BareLemmas.{bare_state, messages_bare}
use Rattle.log_replay.proofs.TakenLemmas.{or_parts}
use Rattle.log_replay.proofs.LateLemmas.{actor_count, feed_count, map_numbers, none_late}
use Rattle.log_replay.proofs.SizeLemmas.{contains_actor, map_to, none_counted, none_listed_of, sized, sized_opening, zero_where}
use Rattle.fair_semantics.proofs.RestLemmas.{each_in_order, each_of_all, none_in}
use Rattle.log_replay.proofs.ActorLemmas.{after, alike, before, came, entries_kept, expected_is, rest, shown, stamps_expected, start}
use Rattle.log_replay.proofs.BoundLemmas.{full}
use Rattle.log_replay.proofs.EndingLemmas.{Ends, ends_behind, settled_entries, settled_late}

pub running_is : (e : Ending) → is_running e ≡ true → e ≡ ending.Running
running_is ending.Running e = refl
running_is ending.Stopped e = absurd cc
running_is ending.Jammed e = absurd cc
running_is ending.Spent e = absurd cc

pub not_false : (b : Bool) → not b ≡ false → b ≡ true
not_false true e = refl
not_false false e = absurd cc

pub none_at : {X : Type 0} (xs : List X) → min (length xs) (2 ^ 64 - 1) ≡ 0 → xs ≡ []
none_at [] e = refl
none_at (x ∷ xs) e = absurd (omega arith)

module _ (plan : Plan) (feeds : List (List (ℕ × Message))) (run : Run) (linked : IsLinked plan run.limits feeds run) (few_actors : length plan.actors ≤ 32) (fit : AllByRecursion (AllByRecursion (PostFits plan)) feeds) where
  module _ (actor : ℕ) (own : ActorRun) (there : slice_get run.actors actor ≡ Some own) where
    abbrev setting : Setting
    setting = setting_of plan actor run.limits

    abbrev posts : Source → List Stamped
    posts source = posts_of feeds run.actors source actor

    abbrev behind : List Sent
    behind = rest plan feeds run linked actor own there

    abbrev at_arrivals : State
    at_arrivals = before plan feeds run linked actor own there

    abbrev at_last : State
    at_last = after plan feeds run linked actor own there

    abbrev again : State
    again = stepped plan run actor

    same_state : bare_state at_arrivals ≡ bare_state again
    same_state = alike plan feeds run linked actor own there

    same_count : length at_arrivals.entries ≡ length again.entries
    same_count = sym (length-map at_arrivals.entries unstamped_entry) ∙ ap (λ (s : State). length s.entries) same_state ∙ length-map again.entries unstamped_entry

    -- a running actor with nothing behind its arrivals has no late count
    runs_on : is_running at_arrivals.ending ≡ true → behind ≡ [] → own.late ≡ []
    runs_on running none =
        let last : at_last.ending ≡ at_arrivals.ending = ap (λ (xs : List Sent). (after_all setting at_arrivals xs).ending) none in
        (linked.each actor own there).none_late ((shown plan feeds run linked actor own there).ending ∙ last ∙ running_is at_arrivals.ending running)

    never_late : may_be_late run.limits again ≡ false → own.late ≡ []
    never_late e =
        let parts = or_parts (not (is_running again.ending)) (nat_le run.limits.arrivals (length again.entries)) e in
        let running : is_running at_arrivals.ending ≡ true = ap (λ (s : State). is_running s.ending) same_state ∙ not_false (is_running again.ending) parts.0 in
        by parts.1 running behind refl
      where
        by : nat_le run.limits.arrivals (length again.entries) ≡ false → is_running at_arrivals.ending ≡ true → (xs : List Sent) → behind ≡ xs → own.late ≡ []
        by room running [] none = runs_on running none
        by room running (first ∷ more) is =
            let f = full plan feeds run linked few_actors fit actor own there first more is running in
            let clash : true ≡ false = sym f.0 ∙ ap (nat_le run.limits.arrivals) same_count ∙ room in
            absurd cc

    -- ---- late counts

    abbrev late_with : Bool → Late
    late_with b = record {
      feeds = map (λ k. count_where b (count_of (Feed k) (read_late run actor))) (numbers_from 1 run.feeds);
      actors = map (λ from. count_where b (posts_beyond plan run from actor)) (numbers_from 0 (length plan.actors));
    }

    sizes : (length at_last.late.feeds ≡ run.feeds) × (length at_last.late.actors ≡ length plan.actors)
    sizes = sized run.feeds (length plan.actors) setting behind at_arrivals (sized run.feeds (length plan.actors) setting (came plan feeds run linked actor own there) (start plan feeds run linked) (sized_opening run.feeds (length plan.actors)))

    beyond : (from : ℕ) → from < length plan.actors → posts_beyond plan run from actor ≡ count_of (Actor from) own.late
    beyond from l =
        let left : length (rest_of posts own.entries (Actor from)) ≡ length (posts (Actor from)) - length (taken_from (Actor from) own.entries) =
        length-map (drop (length (taken_from (Actor from) own.entries)) (posts (Actor from))) (λ post. (Actor from, post)) ∙ length-drop (length (taken_from (Actor from) own.entries)) (posts (Actor from)) in
        (λ i. min (length (expected_is plan feeds run linked from actor i) - length (taken_from (Actor from) (entries_in (there i)))) (2 ^ 64 - 1))
        ∙ ap (λ (n : ℕ). min n (2 ^ 64 - 1)) (sym left)
        ∙ sym ((linked.each actor own there).late (Actor from) (contains_actor run.feeds (length plan.actors) from l))

    late_is_last : late_with true ≡ at_last.late
    late_is_last = λ i. record { feeds = of_feeds i; actors = of_actors i }
      where
        listed : own.late ≡ late_counts at_last.late
        listed = (shown plan feeds run linked actor own there).late

        of_feeds : (late_with true).feeds ≡ at_last.late.feeds
        of_feeds =
            let f : ℕ → ℕ = λ k. count_of (Feed k) (read_late run actor) in
            ap (λ (n : ℕ). map f (numbers_from 1 n)) (sym sizes.0)
            ∙ map_numbers f 1 at_last.late.feeds (λ k l. ap (λ (xs : List (Source × ℕ)). count_of (Feed (1 + k)) xs) (ap late_in there ∙ listed) ∙ feed_count at_last.late k l)

        of_actors : (late_with true).actors ≡ at_last.late.actors
        of_actors =
            let f : ℕ → ℕ = λ from. posts_beyond plan run from actor in
            ap (λ (n : ℕ). map f (numbers_from 0 n)) (sym sizes.1)
            ∙ map_numbers f 0 at_last.late.actors (λ k l. beyond (0 + k) (omega (arith, sizes.1)) ∙ ap (count_of (Actor (0 + k))) listed ∙ actor_count at_last.late k l)

    late_same : late_counts (expected_late plan run actor) ≡ own.late
    late_same = by (may_be_late run.limits again) refl
      where
        by : (b : Bool) → may_be_late run.limits again ≡ b → late_counts (expected_late plan run actor) ≡ own.late
        by true e = ap (λ (b : Bool). late_counts (late_with b)) e ∙ ap late_counts late_is_last ∙ sym (shown plan feeds run linked actor own there).late
        by false e =
            ap (λ (b : Bool). late_counts (late_with b)) e
            ∙ none_counted (late_with false) (zero_where (λ k. count_of (Feed k) (read_late run actor)) (numbers_from 1 run.feeds)) (zero_where (λ from. posts_beyond plan run from actor) (numbers_from 0 (length plan.actors)))
            ∙ sym (never_late e)

    -- ---- the ending

    abbrev end : State
    end = settled again (expected_late plan run actor)

    -- where no count is above 0, nothing is behind the arrivals
    none_behind : some_late (expected_late plan run actor) ≡ false → behind ≡ []
    none_behind e =
        let none : own.late ≡ [] = sym late_same ∙ none_listed_of (expected_late plan run actor) e in
        let rests : List (List Sent) = map (rest_of posts own.entries) (sources run.feeds (length plan.actors)) in
        let Empty : List Sent → Type 0 = λ (xs : List Sent). xs ≡ [] in
        let each = each_of_all Empty (rest_of posts own.entries) (sources run.feeds (length plan.actors)) (λ source c.
        none_at (rest_of posts own.entries source) (sym ((linked.each actor own there).late source c) ∙ ap (count_of source) none)) in
        none_in (rests_in_order (kind_types plan.kinds) rests) (each_in_order Empty (kind_types plan.kinds) rests each)

    ends_as : Ends setting at_arrivals again (expected_late plan run actor) behind
    ends_as = ends_behind setting at_arrivals again (expected_late plan run actor) behind record {
      same = same_state;
      refused = λ first more is running. (full plan feeds run linked few_actors fit actor own there first more is running).1;
      nothing = none_behind;
      no_count = λ running none. none_late (expected_late plan run actor) (late_same ∙ runs_on running none);
    }

    messages_same : recorded_messages end.entries ≡ recorded_messages at_last.entries
    messages_same =
        ap recorded_messages (settled_entries again (expected_late plan run actor))
        ∙ sym (messages_bare again.entries)
        ∙ sym (ap (λ (s : State). recorded_messages s.entries) same_state)
        ∙ messages_bare at_arrivals.entries
        ∙ ap recorded_messages (sym (entries_kept plan feeds run linked actor own there))

    -- the expected run of a linked actor is its run
    pub actor_expected : expected_actor plan run actor ≡ own
    actor_expected =
        let s = shown plan feeds run linked actor own there in
        let late = expected_late plan run actor in
        let entries : stamped_in run.version (arrived (stamps_sent plan run actor) (read_entries run actor)) end.entries ≡ own.entries =
        ap (stamped_in run.version (arrived (stamps_sent plan run actor) (read_entries run actor))) (settled_entries again late) ∙ stamps_expected plan feeds run linked actor own there in
        let counts : late_counts end.late ≡ own.late = ap late_counts (settled_late again late) ∙ late_same in
        let ends : end.ending ≡ own.ending = ends_as.ending ∙ sym s.ending in
        let left : end.live ≡ own.left = ends_as.live ∙ sym s.left in
        let partials : partials_of setting.rules end ≡ own.partials = (λ i. partial_count (messages_same i) (ends_as.live i) (definitions_of setting.rules)) ∙ sym s.partials in
        λ i. record { entries = entries i; late = counts i; ending = ends i; left = left i; partials = partials i }

  pub run_expected : expected_run plan run ≡ run
  run_expected =
      let actors : map (expected_actor plan run) (numbers_from 0 (length plan.actors)) ≡ run.actors =
      ap (λ (n : ℕ). map (expected_actor plan run) (numbers_from 0 n)) (sym linked.fits_plan.actors)
      ∙ map_to (expected_actor plan run) 0 run.actors (λ k own e. ap (expected_actor plan run) (at_zero k) ∙ actor_expected k own e) in
      λ i. record { version = run.version; limits = run.limits; feeds = run.feeds; actors = actors i }
    where
      at_zero : (k : ℕ) → 0 + k ≡ k
      at_zero k = omega arith
