-- A run that is its own expected run, and of whose posts the lines are right, is linked to the feeds that it shows.
use Rattle.std.proofs.Common.{◌≡◌, ◌∙◌, inl, inr, ℕ, zero, suc, ◌+◌, ◌-◌, ◌^◌, ◌<◌, ◌≤◌, min, max, List, [], ◌∷◌, ◌++◌, length, length-append, map, take, drop, Bool, true, false, Option, None, Some, slice_get, refl, ap, sym, subst, arith}
use Rattle.std.specs.Prelude.{if◌then◌else◌, nat_le, not, ◌||◌, ◌&&◌, ◌==◌, slice_index}
use Rattle.std.specs.List.{AllByRecursion, flat_map}
use Rattle.std.proofs.lemmas.List.{length-map, length-drop, length-replicate}
use Rattle.std.proofs.lemmas.Bool.Decides.{nat_tests}
use Rattle.std.proofs.lemmas.Bool.{eqb-true, and_left}
use Rattle.join_base.specs.declared.message.Message.{Message}
use Rattle.join_base.specs.declared.message.Stamped.{Stamped}
use Rattle.join_base.specs.declared.message.Source.{Source}
use Rattle.join_base.specs.declared.message.Source.TheVariants.{Feed, Actor}
use Rattle.pattern_core.specs.Matches.{partial_count}
use Rattle.pattern_core.proofs.MembersLemmas.{IsIn-flat_map_from, IsIn-map_from}
use Rattle.script_types.specs.declared.plan.Plan.{Plan}
use Rattle.script_types.specs.Typed.{kind_types}
use Rattle.fair_semantics.specs.declared.run.Ending.TheVariants as ending
use Rattle.fair_semantics.specs.declared.run.Entry.{Entry}
use Rattle.fair_semantics.specs.declared.run.ActorRun.{ActorRun}
use Rattle.fair_semantics.specs.declared.run.Run.{Run}
use Rattle.join_base.specs.Late.{Late, late_count}
use Rattle.fair_semantics.specs.Step.{Setting, State, definitions_of, fits, is_refused, is_running, latest_stamp, recorded_messages, opening}
use Rattle.join_base.specs.Late.{late_counts}
use Rattle.fair_semantics.specs.Fair.{Sent, after_all, partials_of, run_of, setting_of}
use Rattle.fair_semantics.specs.Fits.{ActorRunFits, RunFits}
use Rattle.fair_semantics.specs.Linked.{arrived_after, count_of, in_version, message_from, messages_of, numbers_from, posts_of, rest_of, rests_in_order, same_source, sources, stamp_at, taken_from, unstamped, unstamped_entry, IsLinked, IsLinkedActor}
use Rattle.fair_semantics.specs.StampLaw.{arrivals_of}
use Rattle.fair_semantics.proofs.FairLemmas.{after_all-append}
use Rattle.fair_semantics.proofs.ListLemmas.{each_replicate, each_in}
use Rattle.fair_semantics.proofs.StampLemmas.{Known, ZeroOr, came_known, place_in, stamp_of_entry, found_in}
use Rattle.join_base.specs.Stamps.{greatest_stamp}
use Rattle.run_order_law.specs.Sorted.{entries_in}
use Rattle.log_posts.specs.Lates.{count_where}
use Rattle.log_replay.specs.Expected.{bare, expected_actor, expected_late, expected_posts, expected_run, may_be_late, posts_beyond, read_entries, read_late, restamped, settled, some_late, stepped}
use Rattle.log_replay.specs.Feeds.{feed_shown, feeds_shown, first_copied, messages_shown}
use Rattle.log_replay.proofs.BareLemmas.{bare_state, messages_bare}
pub use Rattle.fair_semantics.proofs.NumberLemmas.{count_numbers, equal_at, zero_at}
use Rattle.log_replay.proofs.TakenLemmas.{Taken, adding, bare_chain, ended, not_late, or_parts, restamped_is, spent_on}
use Rattle.log_replay.proofs.LateLemmas.{actor_count, feed_count, none_late}
use Rattle.log_replay.proofs.SizeLemmas.{Sized, none_counted, none_listed_of, sized, sized_opening, zero_where}
use Rattle.fair_semantics.proofs.RestLemmas.{each_in as each_rest, each_in_order, each_of_all, none_in}
use Rattle.fair_semantics.proofs.CountedLemmas.{Among, counted, ended_late, occurs_behind, raised_by, spent_late}
use Rattle.run_order_law.proofs.ArrivalLemmas.{length-arrived}
use Rattle.log_replay.proofs.ActorLemmas.{arrived_unsent}
use Rattle.log_replay.proofs.BoundLemmas.{most}
use Rattle.log_replay.proofs.ExpectedLemmas.{none_at, not_false, running_is}
use Rattle.log_replay.proofs.FeedLemmas.{among_sources, bare_fed, count_small, fed, feed_to, first_of, next_posts}
use Rattle.log_replay.proofs.AcceptedLemmas.{SectionKeeps, each_mapped}
use Rattle.log_replay.proofs.ReadLemmas.{bare_taken, came, expected_is, few, own_expected, stamped_came, stamped_chain, stamps_small}
use Rattle.log_replay.proofs.EndingLemmas.{Ends, ends_behind, settled_as, settled_entries, settled_late}

index_numbers : (f : ℕ → ℕ) (begin n k : ℕ) → k < n → slice_index (map f (numbers_from begin n)) k ≡ f (begin + k)
index_numbers f begin zero k l = absurd (omega arith)
index_numbers f begin (suc n) zero l = let e : begin ≡ begin + 0 = omega arith in ap f e
index_numbers f begin (suc n) (suc k) l = let e : begin + 1 + k ≡ begin + suc k = omega arith in index_numbers f (begin + 1) n k (omega arith) ∙ ap f e

arrived_bounded : (posts : Source → List Stamped) → ((source : Source) (k : ℕ) → stamp_at (slice_get (posts source) k) ≤ most) → (earlier entries : List Entry) → AllByRecursion (λ (s : Sent). s.1.stamp ≤ most) (arrived_after posts earlier entries)
arrived_bounded posts h earlier [] = tt
arrived_bounded posts h earlier (e ∷ entries) = (h e.source (length (taken_from e.source earlier)), arrived_bounded posts h (earlier ++ e ∷ []) entries)

spent_runs_not : ending.Spent ≡ ending.Running → ⊥
spent_runs_not e = absurd cc

module _ (plan : Plan) (run : Run) (fit : RunFits plan run) (few_actors : length plan.actors ≤ 32) (same : expected_run plan run ≡ run) (keeps : (actor : ℕ) (own : ActorRun) → slice_get run.actors actor ≡ Some own → SectionKeeps plan run actor own) where
  abbrev feeds : List (List (ℕ × Message))
  feeds = feeds_shown run

  abbrev first_state : State
  first_state = opening run.feeds (length plan.actors)

  carried_small : (actor : ℕ) (source : Source) (k : ℕ) → stamp_at (slice_get (posts_of feeds run.actors source actor) k) ≤ most
  carried_small actor source k = by (stamp_at (slice_get (posts_of feeds run.actors source actor) k)) (came_known run.actors feeds actor source k)
    where
      by : (n : ℕ) → ZeroOr (Known run.actors) n → n ≤ most
      by n (inl e) = omega arith
      by n (inr known) =
          let e = IsIn-map_from stamp_of_entry n (arrivals_of run.actors) known in
          let own = IsIn-flat_map_from (λ (x : ActorRun). x.entries) e.0 run.actors e.1 in
          let at = place_in run.actors own.0 own.1 in
          let l = stamps_small plan feeds run fit few_actors same at.0 own.0 at.1 e.0 own.2 in
          omega (arith, l, e.2)

  module _ (actor : ℕ) (own : ActorRun) (there : slice_get run.actors actor ≡ Some own) where
    abbrev setting : Setting
    setting = setting_of plan actor run.limits

    abbrev posts : Source → List Stamped
    posts source = posts_of feeds run.actors source actor

    abbrev sent : List Sent
    sent = came plan feeds run fit few_actors same actor own there

    abbrev rests : List (List Sent)
    rests = map (rest_of posts own.entries) (sources run.feeds (length plan.actors))

    abbrev behind : List Sent
    behind = flat_map (λ (xs : List Sent). xs) (rests_in_order (kind_types plan.kinds) rests)

    abbrev at_arrivals : State
    at_arrivals = after_all setting first_state sent

    abbrev at_last : State
    at_last = after_all setting at_arrivals behind

    abbrev replayed : State
    replayed = stepped plan run actor

    abbrev late : Late
    late = expected_late plan run actor

    expected : expected_actor plan run actor ≡ own
    expected = own_expected plan feeds run fit few_actors same actor own there

    few_entries : length own.entries ≤ 1000000
    few_entries = let l = few plan feeds run fit few_actors same actor own there in omega (arith, l, fit.arrivals.1)

    -- ---- the chain of arrivals

    sent_taken : Taken setting first_state sent
    sent_taken =
        let all = length-arrived posts [] own.entries in
        stamped_chain setting sent first_state first_state refl (omega arith) (arrived_bounded posts (carried_small actor) [] own.entries) (omega (arith, all, few_entries))
        (subst (Taken setting first_state) (sym (arrived_unsent posts [] own.entries)) (bare_taken plan feeds run fit few_actors same actor own there))

    same_state : bare_state at_arrivals ≡ bare_state replayed
    same_state =
        let all = length-arrived posts [] own.entries in
        bare_chain setting sent first_state first_state refl refl (omega (arith, all, few_entries)) sent_taken
        ∙ ap (λ (xs : List Sent). bare_state (after_all setting first_state xs)) (arrived_unsent posts [] own.entries)
        ∙ sym (ap (λ (o : Option ActorRun). bare_state (after_all setting first_state (map bare (entries_in o)))) there)

    same_count : length at_arrivals.entries ≡ length replayed.entries
    same_count = sym (length-map at_arrivals.entries unstamped_entry) ∙ ap (λ (s : State). length s.entries) same_state ∙ length-map replayed.entries unstamped_entry

    -- ---- the late counts

    listed : own.late ≡ late_counts late
    listed = sym (ap (λ (x : ActorRun). x.late) expected) ∙ ap late_counts (settled_late replayed late)

    abbrev late_with : Bool → Late
    late_with b = record {
      feeds = map (λ k. count_where b (count_of (Feed k) (read_late run actor))) (numbers_from 1 run.feeds);
      actors = map (λ from. count_where b (posts_beyond plan run from actor)) (numbers_from 0 (length plan.actors));
    }

    none_where : may_be_late run.limits replayed ≡ false → late_counts late ≡ []
    none_where e =
        ap (λ (b : Bool). late_counts (late_with b)) e
        ∙ none_counted (late_with false) (zero_where (λ k. count_of (Feed k) (read_late run actor)) (numbers_from 1 run.feeds)) (zero_where (λ from. posts_beyond plan run from actor) (numbers_from 0 (length plan.actors)))

    late_sized : Sized run.feeds (length plan.actors) late
    late_sized = (
      length-map (numbers_from 1 run.feeds) (λ k. count_where (may_be_late run.limits replayed) (count_of (Feed k) (read_late run actor))) ∙ count_numbers 1 run.feeds,
      length-map (numbers_from 0 (length plan.actors)) (λ from. count_where (may_be_late run.limits replayed) (posts_beyond plan run from actor)) ∙ count_numbers 0 (length plan.actors),
    )

    ending_is : own.ending ≡ (settled replayed late).ending
    ending_is = sym (ap (λ (x : ActorRun). x.ending) expected)

    -- a running actor that is not full runs on
    runs_on : may_be_late run.limits replayed ≡ false → (expected_actor plan run actor).ending ≡ ending.Running
    runs_on e =
        let parts = or_parts (not (is_running replayed.ending)) (nat_le run.limits.arrivals (length replayed.entries)) e in
        let running = not_false (is_running replayed.ending) parts.0 in
        let none = none_late late (none_where e) in
        let both : (is_running replayed.ending && some_late late) ≡ false = λ i. running i && none i in
        ap (λ (s : State). s.ending) (settled_as replayed late false both) ∙ running_is replayed.ending running

    -- ---- what is behind its arrivals

    rest_length : (source : Source) → length (rest_of posts own.entries source) ≡ length (posts source) - length (taken_from source own.entries)
    rest_length source = length-map (drop (length (taken_from source own.entries)) (posts source)) (λ post. (source, post)) ∙ length-drop (length (taken_from source own.entries)) (posts source)

    copied : (feed : ℕ) → length (first_copied (count_of (Feed feed) own.late) own.entries) ≡ count_of (Feed feed) own.late
    copied feed = by own.entries refl
      where
        below : (n m : ℕ) → m < n → nat_le n m ≡ false
        below n m e = grind (arith, nat_tests)

        by : (es : List Entry) → own.entries ≡ es → length (first_copied (count_of (Feed feed) own.late) es) ≡ count_of (Feed feed) own.late
        by (e ∷ es) is = length-replicate (count_of (Feed feed) own.late) e.message
        by [] is =
            let state : replayed ≡ first_state = ap (λ (o : Option ActorRun). after_all setting first_state (map bare (entries_in o))) there ∙ ap (λ (es : List Entry). after_all setting first_state (map bare es)) is in
            let room : may_be_late run.limits replayed ≡ false = ap (may_be_late run.limits) state ∙ below run.limits.arrivals 0 fit.arrivals.0 in
            let none : own.late ≡ [] = listed ∙ none_where room in
            sym (ap (count_of (Feed feed)) none)

    late_ok : (source : Source) → Among run.feeds (length plan.actors) source → count_of source own.late ≡ min (length (rest_of posts own.entries source)) (2 ^ 64 - 1)
    late_ok (Feed feed) a =
        let own_fits = each_in (ActorRunFits plan run.version run.feeds) run.actors fit.each own (found_in run.actors actor own there) in
        let bound = count_small plan run.feeds (Feed feed) own.late own_fits.late in
        let is : posts (Feed feed) ≡ fed (messages_shown feed own) = feed_to run feed actor own a.0 a.1 there in
        let all : length (posts (Feed feed)) ≡ length (messages_shown feed own) = ap length is ∙ length-map (messages_shown feed own) (λ m. record { message = m; stamp = 0 }) in
        let sum : length (messages_shown feed own) ≡ length (taken_from (Feed feed) own.entries) + length (first_copied (count_of (Feed feed) own.late) own.entries) = length-append (taken_from (Feed feed) own.entries) (first_copied (count_of (Feed feed) own.late) own.entries) in
        let copies = copied feed in
        let rest = rest_length (Feed feed) in
        omega (arith, bound, all, sum, copies, rest)
    late_ok (Actor from) a = by (may_be_late run.limits replayed) refl
      where
        z : 0 + from ≡ from
        z = omega arith

        sent_count : length (expected_posts plan run from actor) ≡ length (posts (Actor from))
        sent_count = ap length (expected_is plan feeds run fit few_actors same from actor)

        read_count : length (taken_from (Actor from) (read_entries run actor)) ≡ length (taken_from (Actor from) own.entries)
        read_count = ap (λ (o : Option ActorRun). length (taken_from (Actor from) (entries_in o))) there

        by : (b : Bool) → may_be_late run.limits replayed ≡ b → count_of (Actor from) own.late ≡ min (length (rest_of posts own.entries (Actor from))) (2 ^ 64 - 1)
        by true e =
            let at : count_of (Actor (0 + from)) (late_counts late) ≡ slice_index late.actors from = actor_count late from (omega (arith, a, late_sized.1)) in
            let is : slice_index late.actors from ≡ count_where (may_be_late run.limits replayed) (posts_beyond plan run (0 + from) actor) = index_numbers (λ k. count_where (may_be_late run.limits replayed) (posts_beyond plan run k actor)) 0 (length plan.actors) from a in
            let counts : count_of (Actor from) own.late ≡ posts_beyond plan run from actor =
            ap (count_of (Actor from)) listed ∙ ap (λ (k : ℕ). count_of (Actor k) (late_counts late)) (sym z) ∙ at ∙ is ∙ ap (λ (b : Bool). count_where b (posts_beyond plan run (0 + from) actor)) e ∙ ap (λ (k : ℕ). posts_beyond plan run k actor) z in
            let rest = rest_length (Actor from) in
            omega (arith, counts, sent_count, read_count, rest)
        by false e =
            let none : own.late ≡ [] = listed ∙ none_where e in
            let lacks = (keeps actor own there).lacks (runs_on e) from a in
            let rest = rest_length (Actor from) in
            let counts : count_of (Actor from) own.late ≡ 0 = ap (count_of (Actor from)) none in
            omega (arith, counts, sent_count, read_count, rest, lacks)

    -- where no count is above 0, nothing is behind
    none_behind : own.late ≡ [] → behind ≡ []
    none_behind none =
        let Empty : List Sent → Type 0 = λ (xs : List Sent). xs ≡ [] in
        let each = each_of_all Empty (rest_of posts own.entries) (sources run.feeds (length plan.actors)) (λ source c.
        none_at (rest_of posts own.entries source) (sym (late_ok source (among_sources run.feeds (length plan.actors) source c)) ∙ ap (count_of source) none)) in
        none_in (rests_in_order (kind_types plan.kinds) rests) (each_in_order Empty (kind_types plan.kinds) rests each)

    -- a running actor with something behind is full, so it refuses that
    refused : (first : Sent) (more : List Sent) → behind ≡ first ∷ more → is_running at_arrivals.ending ≡ true → is_refused setting at_arrivals first.1.message first.1.stamp ≡ true
    refused first more is running = by (may_be_late run.limits replayed) refl
      where
        full : (b : Bool) → b ≡ true → (c : Bool) → (not b || c) ≡ true → c ≡ true
        full true e c p = p
        full false e c p = absurd cc

        at_once : (a b : Bool) → a ≡ true → (a || b) ≡ true
        at_once true b e = refl
        at_once false b e = absurd cc

        by : (b : Bool) → may_be_late run.limits replayed ≡ b → is_refused setting at_arrivals first.1.message first.1.stamp ≡ true
        by false e = let clash : first ∷ more ≡ [] = sym is ∙ none_behind (listed ∙ none_where e) in absurd cc
        by true e =
            let runs : is_running replayed.ending ≡ true = sym (ap (λ (s : State). is_running s.ending) same_state) ∙ running in
            let most_entries : nat_le run.limits.arrivals (length replayed.entries) ≡ true = full (is_running replayed.ending) runs (nat_le run.limits.arrivals (length replayed.entries)) e in
            at_once (nat_le run.limits.arrivals (length at_arrivals.entries)) (not (fits setting.sorts first.1.message) || nat_le greatest_stamp (max (latest_stamp at_arrivals.entries) first.1.stamp)) (ap (nat_le run.limits.arrivals) same_count ∙ most_entries)

    -- what the messages behind change
    pub record Behind : Type 0 where
      pub entries : at_last.entries ≡ at_arrivals.entries
      pub late : at_last.late ≡ raised_by at_arrivals.late behind

    behind_is : Behind
    behind_is = by (is_running at_arrivals.ending) refl
      where
        runs : is_running at_arrivals.ending ≡ true → (xs : List Sent) → behind ≡ xs → Behind
        runs running [] none =
            record { entries = ap (λ (xs : List Sent). (after_all setting at_arrivals xs).entries) none; late = ap (λ (xs : List Sent). (after_all setting at_arrivals xs).late) none ∙ sym (ap (raised_by at_arrivals.late) none) }
        runs running (first ∷ more) is =
            let r = refused first more is running in
            let o = spent_on setting first more at_arrivals running r in
            record {
              entries = ap (λ (xs : List Sent). (after_all setting at_arrivals xs).entries) is ∙ o.entries;
              late = ap (λ (xs : List Sent). (after_all setting at_arrivals xs).late) is ∙ spent_late setting first more at_arrivals running r ∙ sym (ap (raised_by at_arrivals.late) is);
            }

        by : (b : Bool) → is_running at_arrivals.ending ≡ b → Behind
        by false e = record { entries = (ended setting behind at_arrivals e).entries; late = ended_late setting behind at_arrivals e }
        by true e = runs e behind refl

    last_sized : Sized run.feeds (length plan.actors) at_last.late
    last_sized = sized run.feeds (length plan.actors) setting behind at_arrivals (sized run.feeds (length plan.actors) setting sent first_state (sized_opening run.feeds (length plan.actors)))

    each_among : AllByRecursion (λ (s : Sent). Among run.feeds (length plan.actors) s.0) behind
    each_among =
        let P : Sent → Type 0 = λ (s : Sent). Among run.feeds (length plan.actors) s.0 in
        each_rest P (rests_in_order (kind_types plan.kinds) rests)
        (each_in_order (AllByRecursion P) (kind_types plan.kinds) rests
        (each_of_all (AllByRecursion P) (rest_of posts own.entries) (sources run.feeds (length plan.actors)) (λ source c.
        each_mapped P (λ post. (source, post)) (λ post. among_sources run.feeds (length plan.actors) source c) (drop (length (taken_from source own.entries)) (posts source)))))

    first_zero : (source : Source) → Among run.feeds (length plan.actors) source → late_count first_state.late source ≡ 0
    first_zero (Feed k) a = zero_at run.feeds (k - 1) (omega (arith, a.0, a.1))
    first_zero (Actor from) a = zero_at (length plan.actors) from a

    -- the late counts behind the arrivals are those of the run
    counts_are : (source : Source) → Among run.feeds (length plan.actors) source → late_count at_last.late source ≡ count_of source own.late
    counts_are source a =
        let zero_is = first_zero source a in
        let count = counted run.feeds (length plan.actors) source a behind first_state.late (sized_opening run.feeds (length plan.actors)) each_among (omega (arith, zero_is)) in
        let many = occurs_behind posts own.entries (kind_types plan.kinds) run.feeds (length plan.actors) source a in
        let is : late_count at_last.late source ≡ late_count (raised_by first_state.late behind) source = ap (λ (l : Late). late_count l source) (behind_is.late ∙ ap (λ (l : Late). raised_by l behind) (not_late setting sent first_state sent_taken)) in
        let ok = late_ok source a in
        omega (arith, zero_is, count, many, is, ok)

    late_equal : late ≡ at_last.late
    late_equal = λ i. record { feeds = of_feeds i; actors = of_actors i }
      where
        less_one : (k : ℕ) → 1 + k - 1 ≡ k
        less_one k = omega arith

        plus_none : (k : ℕ) → 0 + k ≡ k
        plus_none k = omega arith

        of_feeds : late.feeds ≡ at_last.late.feeds
        of_feeds = equal_at late.feeds at_last.late.feeds (late_sized.0 ∙ sym last_sized.0) (λ k l.
            sym (feed_count late k l) ∙ ap (count_of (Feed (1 + k))) (sym listed) ∙ sym (counts_are (Feed (1 + k)) (omega arith, omega (arith, l, late_sized.0))) ∙ ap (slice_index at_last.late.feeds) (less_one k))

        of_actors : late.actors ≡ at_last.late.actors
        of_actors = equal_at late.actors at_last.late.actors (late_sized.1 ∙ sym last_sized.1) (λ k l.
            sym (actor_count late k l) ∙ ap (count_of (Actor (0 + k))) (sym listed) ∙ sym (counts_are (Actor (0 + k)) (omega (arith, l, late_sized.1))) ∙ ap (slice_index at_last.late.actors) (plus_none k))

    -- ---- the ending

    abbrev end : State
    end = settled replayed late

    ends_as : Ends setting at_arrivals replayed late behind
    ends_as = ends_behind setting at_arrivals replayed late behind record {
      same = same_state;
      refused = refused;
      nothing = λ e. none_behind (listed ∙ none_listed_of late e);
      no_count = λ running none. none_late late (no_counts none);
    }
      where
        no_counts : behind ≡ [] → late_counts late ≡ []
        no_counts none =
            let last : at_last ≡ at_arrivals = ap (after_all setting at_arrivals) none in
            ap late_counts (late_equal ∙ ap (λ (s : State). s.late) last ∙ not_late setting sent first_state sent_taken)
            ∙ none_counted first_state.late (each_replicate (λ n. n ≡ 0) run.feeds 0 refl) (each_replicate (λ n. n ≡ 0) (length plan.actors) 0 refl)

    -- ---- the run of the actor

    messages_same : recorded_messages end.entries ≡ recorded_messages at_last.entries
    messages_same =
        ap recorded_messages (settled_entries replayed late)
        ∙ sym (messages_bare replayed.entries)
        ∙ sym (ap (λ (s : State). recorded_messages s.entries) same_state)
        ∙ messages_bare at_arrivals.entries
        ∙ ap recorded_messages (sym behind_is.entries)

    bare_entries : map unstamped_entry replayed.entries ≡ map unstamped_entry at_arrivals.entries
    bare_entries = sym (ap (λ (s : State). s.entries) same_state)

    own_is : own ≡ in_version run.version (run_of setting.rules at_last)
    own_is = by (run.version == 1) (stamped_came plan feeds run fit few_actors same actor own there)
      where
        counts : own.late ≡ late_counts at_last.late
        counts = listed ∙ ap late_counts late_equal

        ends : own.ending ≡ at_last.ending
        ends = ending_is ∙ ends_as.ending

        left : own.left ≡ at_last.live
        left = sym (ap (λ (x : ActorRun). x.left) expected) ∙ ends_as.live

        partials : own.partials ≡ partials_of setting.rules at_last
        partials = sym (ap (λ (x : ActorRun). x.partials) expected) ∙ (λ i. partial_count (messages_same i) (ends_as.live i) (definitions_of setting.rules))

        by : (b : Bool) → (if b then map unstamped_entry replayed.entries else restamped 0 sent replayed.entries) ≡ own.entries → own ≡ (if b then unstamped (run_of setting.rules at_last) else run_of setting.rules at_last)
        by true is =
            let entries : own.entries ≡ map unstamped_entry at_last.entries = sym is ∙ bare_entries ∙ ap (map unstamped_entry) (sym behind_is.entries) in
            λ i. record { entries = entries i; late = counts i; ending = ends i; left = left i; partials = partials i }
        by false is =
            let a = adding setting sent first_state sent_taken in
            let entries : own.entries ≡ at_last.entries = sym is ∙ restamped_is 0 sent a.new replayed.entries a.follow (bare_entries ∙ ap (map unstamped_entry) a.are) ∙ sym a.are ∙ sym behind_is.entries in
            λ i. record { entries = entries i; late = counts i; ending = ends i; left = left i; partials = partials i }

    -- ---- its messages begin the posts

    source_of : (from : ℕ) (e : Entry) → message_from (Actor from) e ≡ Some e.message → e.source ≡ Actor from
    source_of from e h = by e.source h
      where
        there_is : (b : Bool) → (if b then Some e.message else None) ≡ Some e.message → b ≡ true
        there_is true p = refl
        there_is false p = absurd cc

        by : (s : Source) → (if same_source s (Actor from) then Some e.message else None) ≡ Some e.message → s ≡ Actor from
        by (Feed k) p = absurd cc
        by (Actor a) p = ap (λ (n : ℕ). Actor n) (eqb-true a from (there_is (a == from) p))

    in_order : (source : Source) → Among run.feeds (length plan.actors) source → taken_from source own.entries ≡ take (length (taken_from source own.entries)) (messages_of (posts source))
    in_order (Feed feed) a =
        let taken : List Message = taken_from (Feed feed) own.entries in
        first_of taken (first_copied (count_of (Feed feed) own.late) own.entries)
        ∙ ap (take (length taken)) (sym (ap messages_of (feed_to run feed actor own a.0 a.1 there) ∙ bare_fed (messages_shown feed own)))
    in_order (Actor from) a =
        next_posts (Actor from) (messages_of (posts (Actor from))) 0 own.entries (λ first more entry split is.
        ap (slice_get (messages_of (posts (Actor from)))) (plus_none (length (taken_from (Actor from) first)))
        ∙ ap (λ (ps : List Stamped). slice_get (messages_of ps) (length (taken_from (Actor from) first))) (sym (expected_is plan feeds run fit few_actors same from actor))
        ∙ (keeps actor own there).posted first more entry split from (source_of from entry is))
      where
        plus_none : (k : ℕ) → 0 + k ≡ k
        plus_none k = omega arith

    running_none : own.ending ≡ ending.Running → own.late ≡ []
    running_none running = listed ∙ by (is_running replayed.ending) refl (some_late late) refl
      where
        by : (a : Bool) → is_running replayed.ending ≡ a → (b : Bool) → some_late late ≡ b → late_counts late ≡ []
        by a e false f = none_listed_of late f
        by true e true f =
            let both : (is_running replayed.ending && some_late late) ≡ true = λ i. e i && f i in
            absurd (spent_runs_not (sym (ap (λ (s : State). s.ending) (settled_as replayed late true both)) ∙ sym ending_is ∙ running))
        by false e true f =
            let stopped : is_running own.ending ≡ false = ap is_running (ending_is ∙ ap (λ (s : State). s.ending) (settled_as replayed late false (and_left (is_running replayed.ending) (some_late late) e))) ∙ e in
            let clash : false ≡ true = sym stopped ∙ ap is_running running in
            absurd cc

    pub linked_actor : IsLinkedActor plan run.limits feeds run actor own
    linked_actor = record {
      in_order = λ source c. in_order source (among_sources run.feeds (length plan.actors) source c);
      late = λ source c. late_ok source (among_sources run.feeds (length plan.actors) source c);
      none_late = running_none;
      fair = own_is ∙ ap (λ (s : State). in_version run.version (run_of setting.rules s)) (sym (after_all-append setting first_state sent behind));
    }

  pub linked_shown : IsLinked plan run.limits feeds run
  linked_shown = record {
    fits_plan = fit;
    same_limits = refl;
    feed_count = sym (length-map (numbers_from 1 run.feeds) (λ feed. feed_shown feed 0 run.actors) ∙ count_numbers 1 run.feeds);
    each = linked_actor;
  }
