-- A state that is the fair semantics of what came: in whatever order it came, and with one message more.
use Rattle.std.proofs.Common.{◌≡◌, ◌∙◌, ◌⊎◌, inl, inr, ℕ, ◌+◌, ◌-◌, ◌^◌, ◌<◌, ◌≤◌, min, max, List, [], ◌∷◌, ◌++◌, length, map, take, drop, Bool, true, false, Option, None, Some, refl, ap, sym, subst, arith}
use Rattle.std.specs.Prelude.{if◌then◌else◌, Contains, nat_le, not, ◌||◌}
use Rattle.std.specs.List.{AllByRecursion, cons_option}
use Rattle.std.proofs.lemmas.List.{append-nil}
use Rattle.std.proofs.lemmas.List.Elements.{filter_map-append}
use Rattle.std.proofs.lemmas.Bool.Decides.{nat_tests}
use Rattle.std.proofs.Math.Seq.{drop-append_seam}
use Rattle.join_base.specs.Late.{late_count}
use Rattle.join_base.specs.Stamps.{greatest_stamp}
use Rattle.join_base.specs.declared.message.Stamped.{Stamped}
use Rattle.join_base.specs.declared.message.Source.{Source}
use Rattle.join_base.specs.declared.message.Source.TheVariants.{Feed, Actor}
use Rattle.fair_semantics.specs.declared.run.Entry.{Entry}
use Rattle.fair_semantics.specs.Step.{Setting, State, entry_with, fair_step, fits, is_refused, is_running, latest_stamp, opening}
use Rattle.fair_semantics.specs.Fair.{Sent, after_all}
use Rattle.fair_semantics.specs.Linked.{arrived, arrived_after, given_by, message_from, messages_of, rest_of, rests_by, rests_in_order, same_source, sources, taken_from}
use Rattle.fair_semantics.proofs.ChainLemmas.{adds}
use Rattle.fair_semantics.proofs.CountedLemmas.{Among}
use Rattle.fair_semantics.proofs.ListLemmas.{each_append}
use Rattle.fair_semantics.proofs.NumberLemmas.{among_sources}
use Rattle.fair_semantics.proofs.RestLemmas.{each_in, each_in_order, each_of_all}
use Rattle.fair_semantics.proofs.SizeLemmas.{Sized, sized, sized_opening}
use Rattle.fair_semantics.proofs.TakenLemmas.{arrival_of, late_is, next_of, records, spent_is}
use Rattle.fair_semantics.proofs.FairLemmas.{after_all-append}
use Rattle.run_order_law.proofs.EventLemmas.{if_from, sent_from}
use Rattle.run_order_law.proofs.GivenLemmas.{arrived_all, given_all, rests_none}
use Rattle.run_order_law.proofs.SourceLemmas.{NoneOf, OneOf, actor_among, contains_one, feed_among, itself, one_or_none}
use Rattle.schedule_law.proofs.SettledLemmas as settled

-- ---- sources

pub one_of : (feeds actors : ℕ) (source : Source) → Among feeds actors source → OneOf source (sources feeds actors)
one_of feeds actors (Feed k) a = feed_among feeds actors k a.0 a.1
one_of feeds actors (Actor b) a = actor_among feeds actors b a

pub is_among : (feeds actors : ℕ) (source : Source) → OneOf source (sources feeds actors) → Among feeds actors source
is_among feeds actors source one = among_sources feeds actors source (contains_one source (sources feeds actors) one)

pub one_none : (source : Source) (xs : List Source) → OneOf source xs → NoneOf source xs → ⊥
one_none source [] one none = one
one_none source (x ∷ xs) (inl h) none = let clash : true ≡ false = sym h.0 ∙ none.0 in cc
one_none source (x ∷ xs) (inr h) none = one_none source xs h.1 none.1

-- ---- the state

-- what came from each source is what was recorded and then a rest, and the state is the fair semantics of the entries
-- and then the rests
pub record Stands (setting : Setting) (feeds actors : ℕ) (posts : Source → List Stamped) (state : State) : Type 0 where
  pub in_order : (source : Source) → taken_from source state.entries ≡ take (length (taken_from source state.entries)) (messages_of (posts source))
  pub late : (source : Source) → Contains (sources feeds actors) source → late_count state.late source ≡ min (length (rest_of posts state.entries source)) (2 ^ 64 - 1)
  pub fair : state ≡ after_all setting (opening feeds actors) (given_by setting.sorts (sources feeds actors) posts state.entries)

module _ (setting : Setting) (feeds actors : ℕ) where
  abbrev pub AllAmong : List Sent → Type 0
  AllAmong sent = AllByRecursion (λ (s : Sent). Among feeds actors s.0) sent

  abbrev pub start : State
  start = opening feeds actors

  abbrev pub final : List Sent → State
  final sent = after_all setting start sent

  -- nothing came from others than the feeds and the actors
  abbrev pub NoOthers : (Source → List Stamped) → Type 0
  NoOthers posts = (source : Source) → NoneOf source (sources feeds actors) → posts source ≡ []

  -- in whatever order it came
  pub stands : (posts : Source → List Stamped) (sent : List Sent) → ((source : Source) → sent_from source sent ≡ posts source) → AllAmong sent → Stands setting feeds actors posts (final sent)
  stands posts sent all among =
      let size : Sized feeds actors (final sent).late = sized feeds actors setting sent start (sized_opening feeds actors) in
      record {
        in_order = settled.in_order setting feeds actors posts sent all among;
        late = λ source c.
            let a = among_sources feeds actors source c in
            sym (settled.shown_late feeds actors source a (final sent).late size) ∙ settled.late setting feeds actors posts sent all among source a;
        fair = settled.fair setting feeds actors posts sent all among;
      }

  -- ---- an order in which it came

  module _ (posts : Source → List Stamped) (entries : List Entry) (none : NoOthers posts) (first : (source : Source) → taken_from source entries ≡ take (length (taken_from source entries)) (messages_of (posts source))) where
    abbrev pub order : List Sent
    order = given_by setting.sorts (sources feeds actors) posts entries

    none_taken : (source : Source) → NoneOf source (sources feeds actors) → taken_from source entries ≡ []
    none_taken source n = first source ∙ ap (λ (ps : List Stamped). take (length (taken_from source entries)) (messages_of ps)) (none source n) ∙ nothing (length (taken_from source entries))
      where
        nothing : (n : ℕ) → take n (messages_of []) ≡ []
        nothing n = grind (arith)

    pub order_all : (source : Source) → sent_from source order ≡ posts source
    order_all source = elim (one_or_none feeds actors source) [
      | inl one ↦ given_all posts entries source setting.sorts (sources feeds actors) one (first source)
      | inr n ↦
          let arrivals = arrived_all posts source [] entries [] (posts source) refl refl (first source) ∙ none source n in
          let rests = rests_none posts entries source setting.sorts (sources feeds actors) n in
          filter_map-append (if_from source) (arrived posts entries) (rests_by setting.sorts (sources feeds actors) posts entries)
          ∙ (λ i. left (sent_from source (arrived posts entries)) (drop (length (taken_from source entries)) (posts source)) arrivals i ++ rests i) ∙ sym (none source n)
    ]
      where
        left : (xs ys : List Stamped) → xs ++ ys ≡ [] → xs ≡ []
        left [] ys e = refl
        left (x ∷ xs) ys e = absurd cc

    -- ---- all of it came from feeds and actors

    abbrev EntriesAmong : List Entry → Type 0
    EntriesAmong es = AllByRecursion (λ (e : Entry). Among feeds actors e.source) es

    entries_among : (es : List Entry) → ((source : Source) → NoneOf source (sources feeds actors) → taken_from source es ≡ []) → EntriesAmong es
    entries_among [] nothing = tt
    entries_among (e ∷ es) nothing = (here (one_or_none feeds actors e.source), entries_among es (λ source n. later source (nothing source n)))
      where
        later : (source : Source) → taken_from source (e ∷ es) ≡ [] → taken_from source es ≡ []
        later source = by (message_from source e)
          where
            by : (o : Option _) → cons_option o (taken_from source es) ≡ [] → taken_from source es ≡ []
            by None h = h
            by (Some m) h = absurd cc

        here : OneOf e.source (sources feeds actors) ⊎ NoneOf e.source (sources feeds actors) → Among feeds actors e.source
        here (inl one) = is_among feeds actors e.source one
        here (inr n) =
            let some : taken_from e.source (e ∷ es) ≡ e.message ∷ taken_from e.source es = ap (λ (b : Bool). cons_option (if b then Some e.message else None) (taken_from e.source es)) (itself e.source) in
            let clash : e.message ∷ taken_from e.source es ≡ [] = sym some ∙ nothing e.source n in absurd cc

    arrived_among : (before es : List Entry) → EntriesAmong es → AllAmong (arrived_after posts before es)
    arrived_among before [] each = tt
    arrived_among before (e ∷ es) each = (each.0, arrived_among (before ++ e ∷ []) es each.1)

    rest_among : (source : Source) → Among feeds actors source → (ps : List Stamped) → AllAmong (map (λ post. (source, post)) ps)
    rest_among source a [] = tt
    rest_among source a (p ∷ ps) = (a, rest_among source a ps)

    pub order_among : AllAmong order
    order_among =
        let P : Sent → Type 0 = λ (s : Sent). Among feeds actors s.0 in
        let rests = map (rest_of posts entries) (sources feeds actors) in
        each_append P (arrived posts entries) (rests_by setting.sorts (sources feeds actors) posts entries) (arrived_among [] entries (entries_among entries none_taken))
        (each_in P (rests_in_order setting.sorts rests)
        (each_in_order (AllByRecursion P) setting.sorts rests
        (each_of_all (AllByRecursion P) (rest_of posts entries) (sources feeds actors) (λ source c. rest_among source (among_sources feeds actors source c) (drop (length (taken_from source entries)) (posts source))))))

  -- ---- one message more

  pub stands_more : (posts now : Source → List Stamped) (state : State) → Stands setting feeds actors posts state → NoOthers posts → (source : Source) (post : Stamped) → Among feeds actors source
      → ((other : Source) → now other ≡ (if same_source source other then posts other ++ post ∷ [] else posts other)) → Stands setting feeds actors now (fair_step setting state source post.message post.stamp).0
  stands_more posts now state before none source post a more =
      let sent = order posts state.entries none before.in_order in
      let later = sent ++ (source, post) ∷ [] in
      let all : (other : Source) → sent_from other later ≡ now other = λ other.
      filter_map-append (if_from other) sent ((source, post) ∷ []) ∙ ap (λ (ps : List Stamped). ps ++ cons_option (if_from other (source, post)) []) (order_all posts state.entries none before.in_order other)
      ∙ by other (same_source source other) ∙ sym (more other) in
      let among = each_append (λ (s : Sent). Among feeds actors s.0) sent ((source, post) ∷ []) (order_among posts state.entries none before.in_order) (a, tt) in
      let is : final later ≡ (fair_step setting state source post.message post.stamp).0 =
      after_all-append setting start sent ((source, post) ∷ []) ∙ ap (λ (s : State). (fair_step setting s source post.message post.stamp).0) (sym before.fair) in
      subst (Stands setting feeds actors now) is (stands now later all among)
    where
      by : (other : Source) (b : Bool) → posts other ++ cons_option (if b then Some post else None) [] ≡ (if b then posts other ++ post ∷ [] else posts other)
      by other true = refl
      by other false = append-nil (posts other)

  -- nothing has come
  pub stands_first : (posts : Source → List Stamped) → ((source : Source) → posts source ≡ []) → Stands setting feeds actors posts start
  stands_first posts none = stands posts [] (λ source. sym (none source)) tt

-- ---- entries

-- a step adds entries
pub record Grows (before after : State) : Type 0 where
  pub new : List Entry
  pub are : after.entries ≡ before.entries ++ new
  pub behind : drop (length before.entries) after.entries ≡ new

pub grows : (setting : Setting) (state : State) (source : Source) (post : Stamped) → Grows state (fair_step setting state source post.message post.stamp).0
grows setting state source post =
    let a = adds setting ((source, post) ∷ []) state in
    record { new = a.new; are = a.entries_are; behind = ap (drop (length state.entries)) a.entries_are ∙ drop-append_seam state.entries a.new }

-- their stamps are not too great for a link
abbrev pub HaveStamps : List Entry → Type 0
HaveStamps entries = AllByRecursion (λ (e : Entry). e.stamp ≤ 4294967295) entries

module _ (setting : Setting) where
  one_stamped : (state : State) (s : Sent) → HaveStamps state.entries → HaveStamps (next_of setting state s).entries
  one_stamped state s each = by (is_running state.ending) refl
    where
      small : (full unfit late : Bool) → (full || (unfit || late)) ≡ false → late ≡ false
      small false false late e = e
      small true unfit late e = absurd cc
      small false true late e = absurd cc

      below : (a : ℕ) → nat_le greatest_stamp a ≡ false → a + 1 ≤ 4294967295
      below a e = let l : a < greatest_stamp = grind (arith, nat_tests, e) in omega (arith, l)

      running : (b : Bool) → is_running state.ending ≡ true → is_refused setting state s.1.message s.1.stamp ≡ b → HaveStamps (next_of setting state s).entries
      running true e r = subst (λ (x : State). HaveStamps x.entries) (sym (spent_is setting state s e r)) each
      running false e r =
          let h = records setting state s e r in
          let l = below (max (latest_stamp state.entries) s.1.stamp) (small (nat_le setting.limits.arrivals (length state.entries)) (not (fits setting.sorts s.1.message)) (nat_le greatest_stamp (max (latest_stamp state.entries) s.1.stamp)) r) in
          subst HaveStamps (sym h.1.0) (each_append (λ (x : Entry). x.stamp ≤ 4294967295) state.entries (entry_with (arrival_of state s) h.0 ∷ []) each (l, tt))

      by : (b : Bool) → is_running state.ending ≡ b → HaveStamps (next_of setting state s).entries
      by false e = subst (λ (x : State). HaveStamps x.entries) (sym (late_is setting state s e)) each
      by true e = running (is_refused setting state s.1.message s.1.stamp) e refl

  all_stamped : (sent : List Sent) (state : State) → HaveStamps state.entries → HaveStamps (after_all setting state sent).entries
  all_stamped [] state each = each
  all_stamped (s ∷ sent) state each = all_stamped sent (next_of setting state s) (one_stamped state s each)

  pub stamped : (feeds actors : ℕ) (posts : Source → List Stamped) (state : State) → Stands setting feeds actors posts state → HaveStamps state.entries
  stamped feeds actors posts state s = subst (λ (x : State). HaveStamps x.entries) (sym s.fair) (all_stamped (given_by setting.sorts (sources feeds actors) posts state.entries) (opening feeds actors) tt)
