-- An actor that was given all that its sources sent it: its run is what a linked run asks for.
use Rattle.std.proofs.Common.{◌≡◌, ◌∙◌, ◌⊎◌, inl, inr, ℕ, zero, suc, ◌+◌, ◌-◌, ◌^◌, ◌<◌, ◌≤◌, min, List, [], ◌∷◌, ◌++◌, length, length-append, map, take, drop, Bool, true, false, Some, None, append_assoc, replicate, refl, ap, sym, subst, arith}
use Rattle.std.specs.Prelude.{if◌then◌else◌, slice_index, Contains}
use Rattle.std.specs.List.{AllByRecursion, cons_option, flat_map}
use Rattle.std.proofs.lemmas.List.{append-nil, length-map, map-append}
use Rattle.std.proofs.lemmas.List.Elements.{filter_map-append}
use Rattle.std.proofs.Math.Seq.{drop-append_seam}
use Rattle.join_base.specs.Late.{Late, late_count, late_counts}
use Rattle.join_base.specs.declared.message.Stamped.{Stamped}
use Rattle.join_base.specs.declared.message.Source.{Source}
use Rattle.join_base.specs.declared.message.Source.TheVariants.{Feed, Actor}
use Rattle.pattern_core.specs.Members.{IsIn}
use Rattle.pattern_core.proofs.MembersLemmas.{IsIn-map}
use Rattle.fair_semantics.specs.declared.run.Ending.TheVariants as ending
use Rattle.fair_semantics.specs.declared.run.Entry.{Entry}
use Rattle.fair_semantics.specs.Step.{Setting, State, is_refused, is_running, opening}
use Rattle.fair_semantics.specs.Fair.{Sent, after_all}
use Rattle.fair_semantics.specs.Linked.{arrived, count_of, given_by, messages_of, rest_of, rests_by, rests_in_order, same_source, sources, taken_from}
use Rattle.fair_semantics.proofs.KeptLemmas.{late_list_zero}
use Rattle.fair_semantics.proofs.ListLemmas.{each_replicate, each_append, each_right}
use Rattle.run_order_law.proofs.EventLemmas.{if_from, same_source_is, sent_from}
use Rattle.run_order_law.proofs.GivenLemmas.{arrived_all}
use Rattle.run_order_law.proofs.RestLemmas.{all_from, one_apart, one_left_over, order_same}
use Rattle.run_order_law.proofs.SourceLemmas.{OneOf, actor_among, feed_among}
use Rattle.run_order_law.proofs.WaitLemmas.{from_itself}
use Rattle.fair_semantics.proofs.TakenLemmas.{not_late}
use Rattle.fair_semantics.proofs.SizeLemmas.{Sized, none_counted, sized_opening}
use Rattle.fair_semantics.proofs.CountedLemmas.{Among, counted, occurs, raised_by, sized_by}
use Rattle.fair_semantics.proofs.LateLemmas.{actor_count, feed_count}
use Rattle.fair_semantics.proofs.RestLemmas.{each_in, each_in_order, each_of_all, none_in}
use Rattle.fair_semantics.proofs.NumberLemmas.{equal_at, zero_at}
use Rattle.fair_semantics.proofs.NumberLemmas.{among_sources, first_of}
use Rattle.fair_semantics.proofs.FairLemmas.{after_all-append}
use Rattle.schedule_law.proofs.BehindLemmas.{AreRecords, Left, Refuses, Split, arrived_are, behind_entries, behind_late, ended_state, left, none_behind, spent_of, spent_state, split, taken_are, taken_count_from, with_late}
use Rattle.schedule_law.proofs.LeadLemmas.{RefusesFirst, refuses_first}

-- ---- lists

occurs_are : (source : Source) (sent : List Sent) → occurs source sent ≡ length (sent_from source sent)
occurs_are source [] = refl
occurs_are source (s ∷ sent) = by (same_source s.0 source) (occurs_are source sent)
  where
    by : (b : Bool) → occurs source sent ≡ length (sent_from source sent) → (if b then 1 else 0) + occurs source sent ≡ length (cons_option (if b then Some s.1 else None) (sent_from source sent))
    by true later = omega arith
    by false later = omega arith

pub one_is_in : (source : Source) (xs : List Source) → OneOf source xs → IsIn source xs
one_is_in source [] one = absurd one
one_is_in source (x ∷ xs) (inl h) = inl (same_source_is x source h.0)
one_is_in source (x ∷ xs) (inr h) = inr (one_is_in source xs h.1)

each_stamped : (P : Sent → Type 0) (source : Source) (posts : List Stamped) → ((post : Stamped) → P (source, post)) → AllByRecursion P (map (λ post. (source, post)) posts)
each_stamped P source [] h = tt
each_stamped P source (post ∷ posts) h = (h post, each_stamped P source posts h)

-- ---- late counts are those of the messages from each source

module _ (feeds actors : ℕ) where
  abbrev AreAmong : List Sent → Type 0
  AreAmong sent = AllByRecursion (λ (s : Sent). Among feeds actors s.0) sent

  abbrev none : Late
  none = (opening feeds actors).late

  zero_count : (source : Source) → Among feeds actors source → late_count none source ≡ 0
  zero_count (Feed k) a = zero_at feeds (k - 1) (omega (arith, a.0, a.1))
  zero_count (Actor b) a = zero_at actors b a

  pub late_is : (source : Source) → Among feeds actors source → (sent : List Sent) → AreAmong sent → late_count (raised_by none sent) source ≡ min (length (sent_from source sent)) (2 ^ 64 - 1)
  late_is source a sent each =
      let zero_is = zero_count source a in
      let count = counted feeds actors source a sent none (sized_opening feeds actors) each (omega (arith, zero_is)) in
      let many = occurs_are source sent in
      omega (arith, zero_is, count, many)

  pub same_late : (xs ys : List Sent) → AreAmong xs → AreAmong ys → ((source : Source) → Among feeds actors source → sent_from source xs ≡ sent_from source ys) → raised_by none xs ≡ raised_by none ys
  same_late xs ys each_x each_y same = λ i. record { feeds = of_feeds i; actors = of_actors i }
    where
      size_x : Sized feeds actors (raised_by none xs)
      size_x = sized_by feeds actors xs none (sized_opening feeds actors)

      size_y : Sized feeds actors (raised_by none ys)
      size_y = sized_by feeds actors ys none (sized_opening feeds actors)

      one_more : (k : ℕ) → suc k - 1 ≡ k
      one_more k = omega arith

      counts : (source : Source) → Among feeds actors source → late_count (raised_by none xs) source ≡ late_count (raised_by none ys) source
      counts source a = late_is source a xs each_x ∙ ap (λ (posts : List Stamped). min (length posts) (2 ^ 64 - 1)) (same source a) ∙ sym (late_is source a ys each_y)

      of_feeds : (raised_by none xs).feeds ≡ (raised_by none ys).feeds
      of_feeds = equal_at (raised_by none xs).feeds (raised_by none ys).feeds (size_x.0 ∙ sym size_y.0) (λ k l.
          ap (slice_index (raised_by none xs).feeds) (sym (one_more k)) ∙ counts (Feed (suc k)) (omega arith, omega (arith, l, size_x.0)) ∙ ap (slice_index (raised_by none ys).feeds) (one_more k))

      of_actors : (raised_by none xs).actors ≡ (raised_by none ys).actors
      of_actors = equal_at (raised_by none xs).actors (raised_by none ys).actors (size_x.1 ∙ sym size_y.1) (λ k l. counts (Actor k) (omega (arith, l, size_x.1)))

  -- what a run shows of them
  pub shown_late : (source : Source) → Among feeds actors source → (late : Late) → Sized feeds actors late → count_of source (late_counts late) ≡ late_count late source
  shown_late (Feed zero) a late sized = absurd (omega (arith, a.0))
  shown_late (Feed (suc k)) a late sized =
      let e : 1 + k ≡ suc k = omega arith in
      let l : suc k - 1 ≡ k = omega arith in
      ap (λ (n : ℕ). count_of (Feed n) (late_counts late)) (sym e) ∙ feed_count late k (omega (arith, a.1, sized.0)) ∙ ap (slice_index late.feeds) (sym l)
  shown_late (Actor b) a late sized =
      let e : 0 + b ≡ b = omega arith in
      ap (λ (n : ℕ). count_of (Actor n) (late_counts late)) (sym e) ∙ actor_count late b (omega (arith, a, sized.1))

-- ---- the actor

module _ (setting : Setting) (feeds actors : ℕ) (posts : Source → List Stamped) (sent : List Sent) (all : (source : Source) → sent_from source sent ≡ posts source) (among : AllByRecursion (λ (s : Sent). Among feeds actors s.0) sent) where
  abbrev start : State
  start = opening feeds actors

  abbrev pub final : State
  final = after_all setting start sent

  abbrev parts : Split setting start sent
  parts = split setting sent start

  abbrev taken : List Sent
  taken = parts.taken

  abbrev behind : List Sent
  behind = parts.behind

  -- the state behind the messages that are taken
  abbrev at : State
  at = after_all setting start taken

  final_is : final ≡ after_all setting at behind
  final_is = ap (after_all setting start) parts.whole ∙ after_all-append setting start taken behind

  entries_are : final.entries ≡ at.entries
  entries_are = ap (λ (s : State). s.entries) final_is ∙ behind_entries setting at behind parts.refuses

  records : AreRecords taken final.entries
  records = let l = left setting start taken parts.all in subst (AreRecords taken) (sym (entries_are ∙ l.are)) l.records

  posts_split : (source : Source) → posts source ≡ sent_from source taken ++ sent_from source behind
  posts_split source = sym (all source) ∙ ap (sent_from source) parts.whole ∙ filter_map-append (if_from source) taken behind

  -- ---- its messages begin the posts

  pub in_order : (source : Source) → taken_from source final.entries ≡ take (length (taken_from source final.entries)) (messages_of (posts source))
  in_order source =
      let messages = λ (ps : List Stamped). messages_of ps in
      let is : taken_from source final.entries ≡ messages (sent_from source taken) = taken_are source taken final.entries records in
      let whole : messages (posts source) ≡ taken_from source final.entries ++ messages (sent_from source behind) =
      ap messages (posts_split source) ∙ map-append (λ post. post.message) (sent_from source taken) (sent_from source behind) ∙ ap (λ (ms : List _). ms ++ messages (sent_from source behind)) (sym is) in
      first_of (taken_from source final.entries) (messages (sent_from source behind)) ∙ ap (take (length (taken_from source final.entries))) (sym whole)

  -- ---- the rests are what stands behind

  rest_is : (source : Source) → drop (length (taken_from source final.entries)) (posts source) ≡ sent_from source behind
  rest_is source =
      (λ i. drop (taken_count_from source taken final.entries records i) (posts_split source i)) ∙ drop-append_seam (sent_from source taken) (sent_from source behind)

  abbrev rests : List (List Sent)
  rests = map (rest_of posts final.entries) (sources feeds actors)

  abbrev pub in_turn : List Sent
  in_turn = rests_by setting.sorts (sources feeds actors) posts final.entries

  one_of : (source : Source) → Among feeds actors source → OneOf source (sources feeds actors)
  one_of (Feed k) a = feed_among feeds actors k a.0 a.1
  one_of (Actor b) a = actor_among feeds actors b a

  same_from : (source : Source) → Among feeds actors source → sent_from source in_turn ≡ sent_from source behind
  same_from source a =
      order_same source setting.sorts rests (one_apart posts final.entries source (sources feeds actors) (one_of source a))
      ∙ one_left_over posts final.entries source (sources feeds actors) (one_of source a) ∙ rest_is source

  behind_among : AllByRecursion (λ (s : Sent). Among feeds actors s.0) behind
  behind_among = each_right (λ (s : Sent). Among feeds actors s.0) taken behind (subst (AllByRecursion (λ (s : Sent). Among feeds actors s.0)) parts.whole among)

  in_turn_among : AllByRecursion (λ (s : Sent). Among feeds actors s.0) in_turn
  in_turn_among =
      let P : Sent → Type 0 = λ (s : Sent). Among feeds actors s.0 in
      each_in P (rests_in_order setting.sorts rests)
      (each_in_order (AllByRecursion P) setting.sorts rests
      (each_of_all (AllByRecursion P) (rest_of posts final.entries) (sources feeds actors) (λ source c.
      each_stamped P source (drop (length (taken_from source final.entries)) (posts source)) (λ post. among_sources feeds actors source c))))

  -- ---- late counts

  at_late : at.late ≡ start.late
  at_late = not_late setting taken start parts.all

  final_late : final.late ≡ raised_by start.late behind
  final_late = ap (λ (s : State). s.late) final_is ∙ behind_late setting at behind parts.refuses ∙ ap (λ (l : Late). raised_by l behind) at_late

  pub late : (source : Source) → Among feeds actors source → count_of source (late_counts final.late) ≡ min (length (rest_of posts final.entries source)) (2 ^ 64 - 1)
  late source a =
      let shows = ap (λ (l : Late). count_of source (late_counts l)) final_late ∙ shown_late feeds actors source a (raised_by start.late behind) (sized_by feeds actors behind start.late (sized_opening feeds actors)) in
      let is = late_is feeds actors source a behind behind_among in
      let rest = length-map (drop (length (taken_from source final.entries)) (posts source)) (λ post. (source, post)) ∙ ap length (rest_is source) in
      shows ∙ is ∙ ap (λ (n : ℕ). min n (2 ^ 64 - 1)) (sym rest)

  pub none_late : final.ending ≡ ending.Running → late_counts final.late ≡ []
  none_late runs =
      let nothing : behind ≡ [] = none_behind setting at behind parts.refuses (sym (ap (λ (s : State). s.ending) final_is) ∙ runs) in
      let is : final.late ≡ start.late = final_late ∙ ap (raised_by start.late) nothing in
      ap late_counts is ∙ none_counted start.late (each_replicate (λ n. n ≡ 0) feeds 0 refl) (each_replicate (λ n. n ≡ 0) actors 0 refl)

  -- ---- it did the fair steps of its arrivals and the rests

  arrived_is : arrived posts final.entries ≡ taken
  arrived_is = arrived_are posts [] [] taken final.entries tt records (λ source. (sent_from source behind, posts_split source))

  same_raised : raised_by at.late in_turn ≡ raised_by at.late behind
  same_raised =
      ap (λ (l : Late). raised_by l in_turn) at_late ∙ same_late feeds actors in_turn behind in_turn_among behind_among (λ source a. same_from source a) ∙ ap (λ (l : Late). raised_by l behind) (sym at_late)

  same_end : after_all setting at in_turn ≡ after_all setting at behind
  same_end = by behind refl parts.refuses
    where
      ended : is_running at.ending ≡ false → after_all setting at in_turn ≡ after_all setting at behind
      ended e = ended_state setting in_turn at e ∙ ap (with_late at) same_raised ∙ sym (ended_state setting behind at e)

      by : (xs : List Sent) → behind ≡ xs → Refuses setting at xs → after_all setting at in_turn ≡ after_all setting at behind
      by [] nothing r =
          let Empty : List Sent → Type 0 = λ (xs : List Sent). xs ≡ [] in
          let none : in_turn ≡ [] =
          none_in (rests_in_order setting.sorts rests)
          (each_in_order Empty setting.sorts rests (each_of_all Empty (rest_of posts final.entries) (sources feeds actors) (λ source c.
          ap (map (λ post. (source, post))) (rest_is source ∙ ap (sent_from source) nothing)))) in
          ap (after_all setting at) (none ∙ sym nothing)
      by (s ∷ more) is (inl e) = ended e
      by (s ∷ more) is (inr r) =
          let a : Among feeds actors s.0 = (subst (AllByRecursion (λ (x : Sent). Among feeds actors x.0)) is behind_among).0 in
          let f = first_refused s more is a r.1 in
          let ours : after_all setting at behind ≡ with_late (spent_of at) (raised_by at.late behind) = subst (λ (xs : List Sent). after_all setting at xs ≡ with_late (spent_of at) (raised_by at.late xs)) (sym is) (spent_state setting s more at r.0 r.1) in
          let theirs : after_all setting at in_turn ≡ with_late (spent_of at) (raised_by at.late in_turn) =
          subst (λ (xs : List Sent). after_all setting at xs ≡ with_late (spent_of at) (raised_by at.late xs)) (sym f.are) (spent_state setting f.first f.more at r.0 f.refused) in
          theirs ∙ ap (with_late (spent_of at)) same_raised ∙ sym ours
        where
          first_refused : (s : Sent) (more : List Sent) → behind ≡ s ∷ more → Among feeds actors s.0 → is_refused setting at s.1.message s.1.stamp ≡ true → RefusesFirst setting at in_turn
          first_refused s more is a refused =
              let rest : rest_of posts final.entries s.0 ≡ s ∷ map (λ post. (s.0, post)) (sent_from s.0 more) =
              ap (map (λ post. (s.0, post))) (rest_is s.0 ∙ ap (sent_from s.0) is ∙ from_itself s.0 s.1 [] more) in
              let one : IsIn (rest_of posts final.entries s.0) rests = IsIn-map (rest_of posts final.entries) s.0 (sources feeds actors) (one_is_in s.0 (sources feeds actors) (one_of s.0 a)) in
              refuses_first setting at s (map (λ post. (s.0, post)) (sent_from s.0 more)) rests (subst (λ (xs : List Sent). IsIn xs rests) rest one) refused

  pub fair : final ≡ after_all setting start (given_by setting.sorts (sources feeds actors) posts final.entries)
  fair =
      let given : after_all setting start (arrived posts final.entries ++ in_turn) ≡ after_all setting at in_turn = ap (λ (xs : List Sent). after_all setting start (xs ++ in_turn)) arrived_is ∙ after_all-append setting start taken in_turn in
      final_is ∙ sym same_end ∙ sym given
