-- A run that is linked to the feeds that it shows is linked to feeds whose rows it took and counted, and to no others.
use Rattle.std.proofs.Common.{◌≡◌, ◌∙◌, ℕ, zero, suc, ◌+◌, ◌-◌, ◌^◌, ◌<◌, ◌≤◌, min, max, List, [], ◌∷◌, ◌++◌, length, map, take, drop, Bool, true, false, Option, None, Some, slice_get, refl, ap, sym, subst, arith}
use Rattle.std.specs.Prelude.{if◌then◌else◌, nat_le, not, ◌||◌, ◌==◌, slice_index, Contains}
use Rattle.std.specs.List.{AllByRecursion, flat_map}
use Rattle.std.proofs.lemmas.List.{length-map, length-drop}
use Rattle.std.proofs.lemmas.Bool.Decides.{nat_tests}
use Rattle.join_base.specs.Late.{Late, late_count}
use Rattle.join_base.specs.Stamps.{greatest_stamp}
use Rattle.join_base.specs.declared.message.Message.{Message}
use Rattle.join_base.specs.declared.message.Stamped.{Stamped}
use Rattle.join_base.specs.declared.message.Source.{Source}
use Rattle.join_base.specs.declared.message.Source.TheVariants.{Feed, Actor}
use Rattle.script_types.specs.declared.plan.Plan.{Plan}
use Rattle.script_types.specs.Typed.{kind_types}
use Rattle.fair_semantics.specs.declared.run.ActorRun.{ActorRun}
use Rattle.fair_semantics.specs.declared.run.Ending.{Ending}
use Rattle.fair_semantics.specs.declared.run.Ending.TheVariants as ending
use Rattle.fair_semantics.specs.declared.run.Run.{Run}
use Rattle.fair_semantics.specs.Fair.{Sent, after_all, run_of, setting_of}
use Rattle.fair_semantics.specs.Fits.{PostFits}
use Rattle.fair_semantics.specs.Linked.{arrived, count_of, feed_posts, in_version, messages_of, posts_of, rest_of, rests_by, rests_in_order, rests_of, same_source, sources, stamp_at, taken_from, IsLinked, IsLinkedActor}
use Rattle.fair_semantics.specs.Step.{Setting, State, fits, is_refused, is_running, latest_stamp}
use Rattle.fair_semantics.proofs.CountedLemmas.{Among, counted, ended_late, occurs, occurs_behind, raised_by, sized_by, spent_late}
use Rattle.fair_semantics.proofs.FairLemmas.{after_all-append}
use Rattle.fair_semantics.proofs.LinkedLemmas.{feed_unstamped}
use Rattle.fair_semantics.proofs.NumberLemmas.{among_sources, equal_at, zero_at}
use Rattle.fair_semantics.proofs.RestLemmas.{each_in, each_in_order, each_of_all}
use Rattle.fair_semantics.proofs.SizeLemmas.{Sized, sized, sized_opening}
use Rattle.log_replay.proofs.AcceptedLemmas.{each_mapped}
use Rattle.log_replay.proofs.ActorLemmas.{arrived_same, before, came, own_is, rest, start, taken}
use Rattle.log_replay.proofs.BoundLemmas.{full}
use Rattle.log_replay.proofs.SizeLemmas.{contains_actor}
use Rattle.log_replay.proofs.TakenLemmas.{ended, not_late, spent_on}
use Rattle.log_audit.specs.Wrong.{Feeds, rows_for}
use Rattle.log_audit.proofs.FitsLemmas.{Fits}
use Rattle.log_audit.proofs.RowLemmas.{rows_count, rows_messages}
use Rattle.log_audit.proofs.ShownLemmas.{contains_feed, item_at, item_within}

-- ---- lists of messages behind the arrivals

source_itself : (source : Source) → same_source source source ≡ true
source_itself (Feed k) = equal k
  where
    equal : (a : ℕ) → (a == a) ≡ true
    equal a = grind (arith, nat_tests)
source_itself (Actor a) = equal a
  where
    equal : (a : ℕ) → (a == a) ≡ true
    equal a = grind (arith, nat_tests)

-- where there are as many of each source, one is empty where the other is
empty_too : (feeds actors : ℕ) (ys : List Sent) → AllByRecursion (λ (s : Sent). Among feeds actors s.0) ys → ((source : Source) → Among feeds actors source → min (occurs source ys) (2 ^ 64 - 1) ≡ 0) → ys ≡ []
empty_too feeds actors [] each none = refl
empty_too feeds actors (s ∷ ys) each none =
    let one : occurs s.0 (s ∷ ys) ≡ 1 + occurs s.0 ys = ap (λ (b : Bool). (if b then 1 else 0) + occurs s.0 ys) (source_itself s.0) in
    let zero_is = none s.0 each.0 in
    absurd (omega (arith, one, zero_is))

module _ (setting : Setting) (state : State) where
  -- what messages behind the arrivals leave: they change nothing but late counts, and these endings
  record Finish (live : List ℕ) (end : Ending) (sent : List Sent) : Type 0 where
    entries_are : (after_all setting state sent).entries ≡ state.entries
    live_is : (after_all setting state sent).live ≡ live
    ending_is : (after_all setting state sent).ending ≡ end
    late_is : (after_all setting state sent).late ≡ raised_by state.late sent

  finish_ended : is_running state.ending ≡ false → (sent : List Sent) → Finish state.live state.ending sent
  finish_ended e sent = let o = ended setting sent state e in record { entries_are = o.entries; live_is = o.live; ending_is = o.ending; late_is = ended_late setting sent state e }

  finish_spent : is_running state.ending ≡ true → (s : Sent) (sent : List Sent) → is_refused setting state s.1.message s.1.stamp ≡ true → Finish [] ending.Spent (s ∷ sent)
  finish_spent running s sent r =
      let o = spent_on setting s sent state running r in
      record { entries_are = o.entries; live_is = o.live; ending_is = o.ending; late_is = spent_late setting s sent state running r }

  same_finish : (live : List ℕ) (end : Ending) (xs ys : List Sent) → Finish live end xs → Finish live end ys → raised_by state.late xs ≡ raised_by state.late ys → after_all setting state xs ≡ after_all setting state ys
  same_finish live end xs ys f g late =
      let entries_same = f.entries_are ∙ sym g.entries_are in
      let live_same = f.live_is ∙ sym g.live_is in
      let ending_same = f.ending_is ∙ sym g.ending_is in
      let late_same = f.late_is ∙ late ∙ sym g.late_is in
      λ i. record { entries = entries_same i; live = live_same i; ending = ending_same i; late = late_same i }

  -- a full actor refuses whatever comes
  full_refuses : nat_le setting.limits.arrivals (length state.entries) ≡ true → (s : Sent) → is_refused setting state s.1.message s.1.stamp ≡ true
  full_refuses is s = ap (λ (b : Bool). b || (not (fits setting.sorts s.1.message) || nat_le greatest_stamp (max (latest_stamp state.entries) s.1.stamp))) is

-- what an actor took of a feed, and what was late of it, is that of these rows
abbrev pub IsFed : Run → Feeds → Type 0
IsFed run feeds = (actor : ℕ) (own : ActorRun) → slice_get run.actors actor ≡ Some own → (k : ℕ) (posts : List (ℕ × Message)) → slice_get feeds k ≡ Some posts
    → Fits (count_of (Feed (1 + k)) own.late) (rows_for actor 0 posts) (taken_from (Feed (1 + k)) own.entries)

-- how many messages of a source are behind the arrivals
rest_length : (posts : Source → List Stamped) (own : ActorRun) (source : Source) → length (rest_of posts own.entries source) ≡ length (posts source) - length (taken_from source own.entries)
rest_length posts own source =
    length-map (drop (length (taken_from source own.entries)) (posts source)) (λ post. (source, post)) ∙ length-drop (length (taken_from source own.entries)) (posts source)

module _ (plan : Plan) (shown feeds : Feeds) (run : Run) (linked : IsLinked plan run.limits shown run) (few_actors : length plan.actors ≤ 32) (fit : AllByRecursion (AllByRecursion (PostFits plan)) shown) (many : run.feeds ≡ length feeds) (fed : IsFed run feeds) where
  module _ (actor : ℕ) (own : ActorRun) (there : slice_get run.actors actor ≡ Some own) where
    abbrev setting : Setting
    setting = setting_of plan actor run.limits

    abbrev shown_posts : Source → List Stamped
    shown_posts source = posts_of shown run.actors source actor

    abbrev posts : Source → List Stamped
    posts source = posts_of feeds run.actors source actor

    abbrev state : State
    state = before plan shown run linked actor own there

    abbrev shown_rest : List Sent
    shown_rest = rest plan shown run linked actor own there

    abbrev own_rest : List Sent
    own_rest = rests_of plan feeds run actor own.entries

    abbrev IsAmong : Source → Type 0
    IsAmong source = Among run.feeds (length plan.actors) source

    -- ---- what was taken, and what was late

    fed_by : (k : ℕ) → suc k ≤ run.feeds → (rows : List (ℕ × Message)) × ((slice_get feeds k ≡ Some rows) × Fits (count_of (Feed (suc k)) own.late) (rows_for actor 0 rows) (taken_from (Feed (suc k)) own.entries))
    fed_by k l =
        let at = item_at feeds k (omega (arith, l, many)) in
        let e : 1 + k ≡ suc k = omega arith in
        (at.0, (at.1, subst (λ (n : ℕ). Fits (count_of (Feed n) own.late) (rows_for actor 0 at.0) (taken_from (Feed n) own.entries)) e (fed actor own there k at.0 at.1)))

    in_order : (source : Source) → Contains (sources run.feeds (length plan.actors)) source → IsAmong source → taken_from source own.entries ≡ take (length (taken_from source own.entries)) (messages_of (posts source))
    in_order (Feed zero) c a = absurd (omega (arith, a.0))
    in_order (Feed (suc k)) c a =
        let f = fed_by k a.1 in
        f.1.1.taken ∙ ap (take (length (taken_from (Feed (suc k)) own.entries))) (rows_messages actor 0 f.0 ∙ ap (λ (o : Option (List (ℕ × Message))). messages_of (feed_posts actor o)) (sym f.1.0))
    in_order (Actor from) c a = (linked.each actor own there).in_order (Actor from) c

    late : (source : Source) → IsAmong source → count_of source own.late ≡ min (length (rest_of posts own.entries source)) (2 ^ 64 - 1)
    late (Feed zero) a = absurd (omega (arith, a.0))
    late (Feed (suc k)) a =
        let f = fed_by k a.1 in
        let others = f.1.1.others in
        let count : length (rows_for actor 0 f.0) ≡ length (posts (Feed (suc k))) = rows_count actor 0 f.0 ∙ ap (λ (o : Option (List (ℕ × Message))). length (feed_posts actor o)) (sym f.1.0) in
        let left = rest_length posts own (Feed (suc k)) in
        omega (arith, others, count, left)
    late (Actor from) a = (linked.each actor own there).late (Actor from) (contains_actor run.feeds (length plan.actors) from a)

    shown_late : (source : Source) → IsAmong source → count_of source own.late ≡ min (length (rest_of shown_posts own.entries source)) (2 ^ 64 - 1)
    shown_late (Feed zero) a = absurd (omega (arith, a.0))
    shown_late (Feed (suc k)) a = (linked.each actor own there).late (Feed (suc k)) (contains_feed run.feeds (length plan.actors) k (omega (arith, a.1)))
    shown_late (Actor from) a = (linked.each actor own there).late (Actor from) (contains_actor run.feeds (length plan.actors) from a)

    -- ---- the arrivals

    same_stamps : (source : Source) (k : ℕ) → stamp_at (slice_get (shown_posts source) k) ≡ stamp_at (slice_get (posts source) k)
    same_stamps (Feed zero) k = refl
    same_stamps (Feed (suc n)) k = feed_unstamped actor (slice_get shown n) k ∙ sym (feed_unstamped actor (slice_get feeds n) k)
    same_stamps (Actor from) k = refl

    came_same : arrived shown_posts own.entries ≡ arrived posts own.entries
    came_same = arrived_same shown_posts posts same_stamps [] own.entries

    -- ---- what is behind them

    each_among : (ps : Source → List Stamped) → AllByRecursion (λ (s : Sent). IsAmong s.0) (rests_by (kind_types plan.kinds) (sources run.feeds (length plan.actors)) ps own.entries)
    each_among ps =
        let P : Sent → Type 0 = λ (s : Sent). IsAmong s.0 in
        let rests : List (List Sent) = map (rest_of ps own.entries) (sources run.feeds (length plan.actors)) in
        each_in P (rests_in_order (kind_types plan.kinds) rests)
        (each_in_order (AllByRecursion P) (kind_types plan.kinds) rests
        (each_of_all (AllByRecursion P) (rest_of ps own.entries) (sources run.feeds (length plan.actors)) (λ source c.
        each_mapped P (λ post. (source, post)) (λ post. among_sources run.feeds (length plan.actors) source c) (drop (length (taken_from source own.entries)) (ps source)))))

    many_behind : (ps : Source → List Stamped) (source : Source) → IsAmong source → occurs source (rests_by (kind_types plan.kinds) (sources run.feeds (length plan.actors)) ps own.entries) ≡ length (rest_of ps own.entries source)
    many_behind ps source a = occurs_behind ps own.entries (kind_types plan.kinds) run.feeds (length plan.actors) source a

    as_many : (source : Source) → IsAmong source → min (occurs source shown_rest) (2 ^ 64 - 1) ≡ min (occurs source own_rest) (2 ^ 64 - 1)
    as_many source a =
        let one : occurs source shown_rest ≡ length (rest_of shown_posts own.entries source) = many_behind shown_posts source a in
        let other : occurs source own_rest ≡ length (rest_of posts own.entries source) = many_behind posts source a in
        let counts = shown_late source a in
        let count = late source a in
        omega (arith, one, other, counts, count)

    -- ---- late counts

    sized_state : Sized run.feeds (length plan.actors) state.late
    sized_state = sized run.feeds (length plan.actors) setting (came plan shown run linked actor own there) (start plan shown run linked) (sized_opening run.feeds (length plan.actors))

    none_yet : (source : Source) → IsAmong source → late_count state.late source ≡ 0
    none_yet source a = ap (λ (l : Late). late_count l source) (not_late setting (came plan shown run linked actor own there) (start plan shown run linked) (taken plan shown run linked actor own there)) ∙ by source a
      where
        by : (s : Source) → Among run.feeds (length plan.actors) s → late_count (start plan shown run linked).late s ≡ 0
        by (Feed k) b = zero_at run.feeds (k - 1) (omega (arith, b.0, b.1))
        by (Actor from) b = zero_at (length plan.actors) from b

    counts_same : (source : Source) → IsAmong source → late_count (raised_by state.late shown_rest) source ≡ late_count (raised_by state.late own_rest) source
    counts_same source a =
        let none = none_yet source a in
        let one = counted run.feeds (length plan.actors) source a shown_rest state.late sized_state (each_among shown_posts) (omega (arith, none)) in
        let other = counted run.feeds (length plan.actors) source a own_rest state.late sized_state (each_among posts) (omega (arith, none)) in
        let same = as_many source a in
        omega (arith, none, one, other, same)

    late_same : raised_by state.late shown_rest ≡ raised_by state.late own_rest
    late_same = λ i. record { feeds = of_feeds i; actors = of_actors i }
      where
        less_one : (k : ℕ) → 1 + k - 1 ≡ k
        less_one k = omega arith

        one_sized : Sized run.feeds (length plan.actors) (raised_by state.late shown_rest)
        one_sized = sized_by run.feeds (length plan.actors) shown_rest state.late sized_state

        other_sized : Sized run.feeds (length plan.actors) (raised_by state.late own_rest)
        other_sized = sized_by run.feeds (length plan.actors) own_rest state.late sized_state

        of_feeds : (raised_by state.late shown_rest).feeds ≡ (raised_by state.late own_rest).feeds
        of_feeds = equal_at (raised_by state.late shown_rest).feeds (raised_by state.late own_rest).feeds (one_sized.0 ∙ sym other_sized.0) (λ k l.
            sym (ap (slice_index (raised_by state.late shown_rest).feeds) (less_one k)) ∙ counts_same (Feed (1 + k)) (omega arith, omega (arith, l, one_sized.0)) ∙ ap (slice_index (raised_by state.late own_rest).feeds) (less_one k))

        of_actors : (raised_by state.late shown_rest).actors ≡ (raised_by state.late own_rest).actors
        of_actors = equal_at (raised_by state.late shown_rest).actors (raised_by state.late own_rest).actors (one_sized.1 ∙ sym other_sized.1) (λ k l. counts_same (Actor k) (omega (arith, l, one_sized.1)))

    -- ---- the state behind all of it

    shown_empty : own_rest ≡ [] → shown_rest ≡ []
    shown_empty none = empty_too run.feeds (length plan.actors) shown_rest (each_among shown_posts) (λ source a.
        let same = as_many source a in
        let nothing : occurs source own_rest ≡ 0 = ap (occurs source) none in
        omega (arith, same, nothing))

    own_empty : shown_rest ≡ [] → own_rest ≡ []
    own_empty none = empty_too run.feeds (length plan.actors) own_rest (each_among posts) (λ source a.
        let same = as_many source a in
        let nothing : occurs source shown_rest ≡ 0 = ap (occurs source) none in
        omega (arith, same, nothing))

    abbrev Ends : List ℕ → Ending → List Sent → Type 0
    Ends live end sent = Finish setting state live end sent

    both_end : (live : List ℕ) (end : Ending) → Ends live end shown_rest → Ends live end own_rest → after_all setting state shown_rest ≡ after_all setting state own_rest
    both_end live end f g = same_finish setting state live end shown_rest own_rest f g late_same

    spent_end : is_running state.ending ≡ true → (s : Sent) (xs : List Sent) → shown_rest ≡ s ∷ xs → (t : Sent) (ys : List Sent) → own_rest ≡ t ∷ ys → after_all setting state shown_rest ≡ after_all setting state own_rest
    spent_end running s xs is t ys are =
        let room = full plan shown run linked few_actors fit actor own there s xs is running in
        let one = finish_spent setting state running s xs (full_refuses setting state room.0 s) in
        let other = finish_spent setting state running t ys (full_refuses setting state room.0 t) in
        both_end [] ending.Spent (subst (λ (zs : List Sent). Ends [] ending.Spent zs) (sym is) one) (subst (λ (zs : List Sent). Ends [] ending.Spent zs) (sym are) other)

    by_rests : is_running state.ending ≡ true → (xs ys : List Sent) → shown_rest ≡ xs → own_rest ≡ ys → after_all setting state shown_rest ≡ after_all setting state own_rest
    by_rests running [] ys is are = ap (after_all setting state) (is ∙ sym (own_empty is))
    by_rests running (s ∷ xs) [] is are = ap (after_all setting state) (shown_empty are ∙ sym are)
    by_rests running (s ∷ xs) (t ∷ ys) is are = spent_end running s xs is t ys are

    end_same : after_all setting state shown_rest ≡ after_all setting state own_rest
    end_same = by (is_running state.ending) refl
      where
        by : (b : Bool) → is_running state.ending ≡ b → after_all setting state shown_rest ≡ after_all setting state own_rest
        by false e = both_end state.live state.ending (finish_ended setting state e shown_rest) (finish_ended setting state e own_rest)
        by true e = by_rests e shown_rest own_rest refl refl

    fed_actor : IsLinkedActor plan run.limits feeds run actor own
    fed_actor = record {
      in_order = λ source c. in_order source c (among_sources run.feeds (length plan.actors) source c);
      late = λ source c. late source (among_sources run.feeds (length plan.actors) source c);
      none_late = (linked.each actor own there).none_late;
      fair =
          own_is plan shown run linked actor own there
          ∙ ap (λ (s : State). in_version run.version (run_of setting.rules s))
          (end_same
          ∙ sym (after_all-append setting (start plan shown run linked) (arrived shown_posts own.entries) own_rest)
          ∙ ap (λ (sent : List Sent). after_all setting (start plan shown run linked) (sent ++ own_rest)) came_same);
    }

  pub linked_by : IsLinked plan run.limits feeds run
  linked_by = record { fits_plan = linked.fits_plan; same_limits = refl; feed_count = many; each = fed_actor }

-- ---- the other way round

module _ (plan : Plan) (feeds : Feeds) (run : Run) (linked : IsLinked plan run.limits feeds run) where
  pub linked_fed : IsFed run feeds
  linked_fed actor own there k posts at =
      let e : suc k ≡ 1 + k = omega arith in
      subst (λ (n : ℕ). Fits (count_of (Feed n) own.late) (rows_for actor 0 posts) (taken_from (Feed n) own.entries)) e fits_there
    where
      among : Contains (sources run.feeds (length plan.actors)) (Feed (suc k))
      among = contains_feed run.feeds (length plan.actors) k (let l = item_within feeds k posts at in omega (arith, l, linked.feed_count))

      fits_there : Fits (count_of (Feed (suc k)) own.late) (rows_for actor 0 posts) (taken_from (Feed (suc k)) own.entries)
      fits_there =
          let l = linked.each actor own there in
          let late_is = l.late (Feed (suc k)) among in
          let count : length (rows_for actor 0 posts) ≡ length (posts_of feeds run.actors (Feed (suc k)) actor) = rows_count actor 0 posts ∙ ap (λ (o : Option (List (ℕ × Message))). length (feed_posts actor o)) (sym at) in
          let left = rest_length (λ source. posts_of feeds run.actors source actor) own (Feed (suc k)) in
          record {
            taken = l.in_order (Feed (suc k)) among ∙ ap (take (length (taken_from (Feed (suc k)) own.entries))) (sym (rows_messages actor 0 posts ∙ ap (λ (o : Option (List (ℕ × Message))). messages_of (feed_posts actor o)) (sym at)));
            others = omega (arith, late_is, count, left);
          }
