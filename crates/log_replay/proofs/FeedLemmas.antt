-- The feeds that a run shows, and what its actors took of them.
use Rattle.std.proofs.Common.{◌≡◌, ◌∙◌, ℕ, zero, suc, ◌+◌, ◌-◌, ◌^◌, ◌<◌, ◌≤◌, List, [], ◌∷◌, ◌++◌, length, map, take, drop, Bool, true, false, Option, None, Some, slice_get, refl, ap, sym, arith}
use Rattle.std.specs.Prelude.{if◌then◌else◌, ◌==◌}
use Rattle.std.specs.List.{AllByRecursion, cons_option, filter_map}
use Rattle.std.proofs.lemmas.List.{append-nil}
use Rattle.std.proofs.lemmas.List.Elements.{filter_map-append}
use Rattle.std.proofs.lemmas.Bool.Decides.{nat_tests}
use Rattle.join_base.specs.declared.message.Message.{Message}
use Rattle.join_base.specs.declared.message.Stamped.{Stamped}
use Rattle.join_base.specs.declared.message.Source.{Source}
use Rattle.join_base.specs.declared.message.Source.TheVariants.{Feed}
use Rattle.script_types.specs.declared.plan.Plan.{Plan}
use Rattle.fair_semantics.specs.declared.run.Entry.{Entry}
use Rattle.fair_semantics.specs.declared.run.ActorRun.{ActorRun}
use Rattle.fair_semantics.specs.declared.run.Run.{Run}
use Rattle.fair_semantics.specs.Fits.{LateFits}
use Rattle.fair_semantics.specs.Linked.{count_of, feed_posts, message_from, messages_of, post_for, posts_of, same_source, taken_from}
use Rattle.log_replay.specs.Feeds.{feed_shown, feeds_shown, messages_shown}
pub use Rattle.fair_semantics.proofs.NumberLemmas.{among_sources, first_of}
use Rattle.fair_semantics.proofs.NumberLemmas.{get_numbers}

-- ---- the posts of a feed to an actor

abbrev pub fed : List Message → List Stamped
fed messages = map (λ m. record { message = m; stamp = 0 }) messages

pub bare_fed : (messages : List Message) → messages_of (fed messages) ≡ messages
bare_fed [] = refl
bare_fed (m ∷ messages) = ap (λ (ms : List Message). m ∷ ms) (bare_fed messages)

to_own : (actor other : ℕ) → (other == actor) ≡ true → (messages : List Message) → filter_map (post_for actor) (map (λ m. (other, m)) messages) ≡ fed messages
to_own actor other e [] = refl
to_own actor other e (m ∷ messages) = (λ i. cons_option (if e i then Some record { message = m; stamp = 0 } else None) (to_own actor other e messages i))

to_other : (actor other : ℕ) → (other == actor) ≡ false → (messages : List Message) → filter_map (post_for actor) (map (λ m. (other, m)) messages) ≡ []
to_other actor other e [] = refl
to_other actor other e (m ∷ messages) = (λ i. cons_option (if e i then Some record { message = m; stamp = 0 } else None) (to_other actor other e messages i))

split_shown : (feed actor start : ℕ) (own : ActorRun) (runs : List ActorRun) → filter_map (post_for actor) (feed_shown feed start (own ∷ runs)) ≡ filter_map (post_for actor) (map (λ m. (start, m)) (messages_shown feed own)) ++ filter_map (post_for actor) (feed_shown feed (start + 1) runs)
split_shown feed actor start own runs = filter_map-append (post_for actor) (map (λ m. (start, m)) (messages_shown feed own)) (feed_shown feed (start + 1) runs)

none_later : (feed actor start : ℕ) (runs : List ActorRun) → actor < start → filter_map (post_for actor) (feed_shown feed start runs) ≡ []
none_later feed actor start [] l = refl
none_later feed actor start (own ∷ runs) l =
    split_shown feed actor start own runs ∙ (λ i. to_other actor start (differ start actor l) (messages_shown feed own) i ++ none_later feed actor (start + 1) runs (omega arith) i)
  where
    differ : (a b : ℕ) → b < a → (a == b) ≡ false
    differ a b e = grind (arith, nat_tests)

shown_to : (feed start k : ℕ) (runs : List ActorRun) (own : ActorRun) → slice_get runs k ≡ Some own → filter_map (post_for (start + k)) (feed_shown feed start runs) ≡ fed (messages_shown feed own)
shown_to feed start k [] own e = absurd cc
shown_to feed start zero (first ∷ runs) own e =
    let same : first ≡ own = cc in
    split_shown feed (start + 0) start first runs
    ∙ (λ i. to_own (start + 0) start (equal start) (messages_shown feed first) i ++ none_later feed (start + 0) (start + 1) runs (omega arith) i)
    ∙ append-nil (fed (messages_shown feed first))
    ∙ ap (λ (x : ActorRun). fed (messages_shown feed x)) same
  where
    equal : (a : ℕ) → (a == a + 0) ≡ true
    equal a = grind (arith, nat_tests)
shown_to feed start (suc k) (first ∷ runs) own e =
    let next : start + 1 + k ≡ start + suc k = omega arith in
    let later : filter_map (post_for (start + suc k)) (feed_shown feed (start + 1) runs) ≡ fed (messages_shown feed own) = ap (λ (a : ℕ). filter_map (post_for a) (feed_shown feed (start + 1) runs)) (sym next) ∙ shown_to feed (start + 1) k runs own e in
    split_shown feed (start + suc k) start first runs ∙ (λ i. to_other (start + suc k) start (differ start k) (messages_shown feed first) i ++ later i)
  where
    differ : (a b : ℕ) → (a == a + suc b) ≡ false
    differ a b = grind (arith, nat_tests)

-- what a feed that a run shows sent an actor
pub feed_to : (run : Run) (feed actor : ℕ) (own : ActorRun) → 1 ≤ feed → feed ≤ run.feeds → slice_get run.actors actor ≡ Some own → posts_of (feeds_shown run) run.actors (Feed feed) actor ≡ fed (messages_shown feed own)
feed_to run zero actor own low high there = absurd (omega arith)
feed_to run (suc k) actor own low high there =
    let e : 1 + k ≡ suc k = omega arith in
    let z : 0 + actor ≡ actor = omega arith in
    ap (feed_posts actor) (get_numbers (λ n. feed_shown n 0 run.actors) 1 run.feeds k (omega arith) ∙ ap (λ (n : ℕ). Some (feed_shown n 0 run.actors)) e)
    ∙ ap (λ (a : ℕ). filter_map (post_for a) (feed_shown (suc k) 0 run.actors)) (sym z)
    ∙ shown_to (suc k) 0 actor run.actors own there

-- ---- prefixes

drop_at : {X : Type 0} (xs : List X) (n : ℕ) (x : X) → slice_get xs n ≡ Some x → drop n xs ≡ x ∷ drop (suc n) xs
drop_at [] n x e = absurd cc
drop_at {X} (y ∷ xs) zero x e = let same : y ≡ x = cc in ap (λ (z : X). z ∷ xs) same
drop_at (y ∷ xs) (suc n) x e = drop_at xs n x e

-- where each message from a source is the next post of it, those messages begin the posts
pub next_posts : (source : Source) (posts : List Message) (n : ℕ) (entries : List Entry) → ((first more : List Entry) (entry : Entry) → entries ≡ first ++ entry ∷ more → message_from source entry ≡ Some entry.message → slice_get posts (n + length (taken_from source first)) ≡ Some entry.message)
    → taken_from source entries ≡ take (length (taken_from source entries)) (drop n posts)
next_posts source posts n [] h = refl
next_posts source posts n (e ∷ entries) h = by (message_from source e) refl (none_or_own (same_source e.source source)) (next_posts source posts n entries) (next_posts source posts (suc n) entries)
  where
    Next : ℕ → Type 0
    Next m = ((first more : List Entry) (entry : Entry) → entries ≡ first ++ entry ∷ more → message_from source entry ≡ Some entry.message → slice_get posts (m + length (taken_from source first)) ≡ Some entry.message) → taken_from source entries ≡ take (length (taken_from source entries)) (drop m posts)

    none_or_own : (b : Bool) → (m : Message) → (if b then Some e.message else None) ≡ Some m → e.message ≡ m
    none_or_own true m p = cc
    none_or_own false m p = absurd cc

    zero_more : (a : ℕ) → a + 0 ≡ a
    zero_more a = omega arith

    one_more : (a b : ℕ) → a + suc b ≡ suc a + b
    one_more a b = omega arith

    by : (o : Option Message) → message_from source e ≡ o → ((m : Message) → message_from source e ≡ Some m → e.message ≡ m) → Next n → Next (suc n) → cons_option (message_from source e) (taken_from source entries) ≡ take (length (cons_option (message_from source e) (taken_from source entries))) (drop n posts)
    by None is own here after =
        let skip : (first : List Entry) → taken_from source (e ∷ first) ≡ taken_from source first = λ first. ap (λ (o : Option Message). cons_option o (taken_from source first)) is in
        let later = here (λ first more entry split from. ap (λ (xs : List Message). slice_get posts (n + length xs)) (sym (skip first)) ∙ h (e ∷ first) more entry (ap (λ (xs : List Entry). e ∷ xs) split) from) in
        ap (λ (o : Option Message). cons_option o (taken_from source entries)) is ∙ later ∙ sym (ap (λ (o : Option Message). take (length (cons_option o (taken_from source entries))) (drop n posts)) is)
    by (Some m) is own here after =
        let same : e.message ≡ m = own m is in
        let at : slice_get posts n ≡ Some m = ap (slice_get posts) (sym (zero_more n)) ∙ h [] entries e refl (is ∙ ap (λ (x : Message). Some x) (sym same)) ∙ ap (λ (x : Message). Some x) same in
        let grow : (first : List Entry) → taken_from source (e ∷ first) ≡ m ∷ taken_from source first = λ first. ap (λ (o : Option Message). cons_option o (taken_from source first)) is in
        let later = after (λ first more entry split from. ap (slice_get posts) (sym (one_more n (length (taken_from source first)))) ∙ ap (λ (xs : List Message). slice_get posts (n + length xs)) (sym (grow first)) ∙ h (e ∷ first) more entry (ap (λ (xs : List Entry). e ∷ xs) split) from) in
        ap (λ (o : Option Message). cons_option o (taken_from source entries)) is
        ∙ ap (λ (xs : List Message). m ∷ xs) later
        ∙ ap (take (suc (length (taken_from source entries)))) (sym (drop_at posts n m at))
        ∙ sym (ap (λ (o : Option Message). take (length (cons_option o (taken_from source entries))) (drop n posts)) is)

-- ---- sources

pub count_small : (plan : Plan) (feeds : ℕ) (source : Source) (late : List (Source × ℕ)) → AllByRecursion (LateFits plan feeds) late → count_of source late ≤ 2 ^ 64 - 1
count_small plan feeds source [] each = omega arith
count_small plan feeds source (l ∷ late) each = by (same_source l.0 source) (count_small plan feeds source late each.1)
  where
    by : (b : Bool) → count_of source late ≤ 2 ^ 64 - 1 → (if b then l.1 else count_of source late) ≤ 2 ^ 64 - 1
    by true later = omega (arith, each.0.small)
    by false later = later
