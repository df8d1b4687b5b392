-- The feeds that a run shows fit the plan, and each feed is among the sources.
use Rattle.std.proofs.Common.{◌≡◌, ℕ, zero, suc, ◌+◌, ◌<◌, ◌≤◌, List, [], ◌∷◌, ◌++◌, length, map, Bool, true, false, Option, None, Some, slice_get, refl, ap, subst, arith}
use Rattle.std.specs.Prelude.{if◌then◌else◌, Contains}
use Rattle.std.specs.List.{AllByRecursion, cons_option}
use Rattle.join_base.specs.declared.message.Message.{Message}
use Rattle.join_base.specs.declared.message.Source.{Source}
use Rattle.join_base.specs.declared.message.Source.TheVariants.{Feed, Actor}
use Rattle.script_types.specs.declared.plan.Plan.{Plan}
use Rattle.fair_semantics.specs.declared.run.ActorRun.{ActorRun}
use Rattle.fair_semantics.specs.declared.run.Entry.{Entry}
use Rattle.fair_semantics.specs.declared.run.Run.{Run}
use Rattle.fair_semantics.specs.Fits.{ActorRunFits, EntryFits, MessageFits, PostFits, RunFits}
use Rattle.fair_semantics.specs.Linked.{count_of, message_from, numbers_from, same_source, sources, taken_from}
use Rattle.fair_semantics.proofs.ListLemmas.{each_append, each_replicate}
use Rattle.log_replay.specs.Feeds.{feed_shown, feeds_shown, first_copied, messages_shown}
use Rattle.log_replay.proofs.AcceptedLemmas.{each_mapped}

-- ---- the feeds that a run shows

module _ (plan : Plan) (run : Run) where
  abbrev Fit : Message → Type 0
  Fit = MessageFits plan

  abbrev EntryIsFit : Entry → Type 0
  EntryIsFit = EntryFits plan run.version run.feeds

  taken_fit : (source : Source) (entries : List Entry) → AllByRecursion EntryIsFit entries → AllByRecursion Fit (taken_from source entries)
  taken_fit source [] each = tt
  taken_fit source (e ∷ entries) each = by (same_source e.source source) (taken_fit source entries each.1)
    where
      by : (b : Bool) → AllByRecursion Fit (taken_from source entries) → AllByRecursion Fit (cons_option (if b then Some e.message else None) (taken_from source entries))
      by true later = (each.0.message, later)
      by false later = later

  copied_fit : (n : ℕ) (entries : List Entry) → AllByRecursion EntryIsFit entries → AllByRecursion Fit (first_copied n entries)
  copied_fit n [] each = tt
  copied_fit n (e ∷ entries) each = each_replicate Fit n e.message each.0.message

  posts_fit : (actor : ℕ) → actor < length plan.actors → (ms : List Message) → AllByRecursion Fit ms → AllByRecursion (PostFits plan) (map (λ m. (actor, m)) ms)
  posts_fit actor l [] each = tt
  posts_fit actor l (m ∷ ms) each = (record { actor = l; message = each.0 }, posts_fit actor l ms each.1)

  feed_fit : (feed actor : ℕ) (runs : List ActorRun) → actor + length runs ≤ length plan.actors → AllByRecursion (ActorRunFits plan run.version run.feeds) runs → AllByRecursion (PostFits plan) (feed_shown feed actor runs)
  feed_fit feed actor [] l each = tt
  feed_fit feed actor (own ∷ runs) l each =
      let late : ℕ = count_of (Feed feed) own.late in
      each_append (PostFits plan) (map (λ m. (actor, m)) (messages_shown feed own)) (feed_shown feed (actor + 1) runs)
      (posts_fit actor (omega (arith, l)) (messages_shown feed own)
      (each_append Fit (taken_from (Feed feed) own.entries) (first_copied late own.entries) (taken_fit (Feed feed) own.entries each.0.entries) (copied_fit late own.entries each.0.entries)))
      (feed_fit feed (actor + 1) runs (omega (arith, l)) each.1)

  pub shown_fit : RunFits plan run → AllByRecursion (AllByRecursion (PostFits plan)) (feeds_shown run)
  shown_fit fit = each_mapped (AllByRecursion (PostFits plan)) (λ feed. feed_shown feed 0 run.actors) (λ feed. feed_fit feed 0 run.actors (omega (arith, fit.actors)) fit.each) (numbers_from 1 run.feeds)

-- ---- the feeds are among the sources

contains_left : {X : Type 0} (xs ys : List X) (x : X) → Contains xs x → Contains (xs ++ ys) x
contains_left [] ys x c = absurd (omega (arith, c.1))
contains_left (y ∷ xs) ys x (zero, l, e) = (zero, omega arith, e)
contains_left (y ∷ xs) ys x (suc k, l, e) = let r = contains_left xs ys x (k, omega (arith, l), e) in (suc r.0, omega (arith, r.1), r.2)

contains_number : (start n k : ℕ) → k < n → Contains (map (λ k. Feed k) (numbers_from start n)) (Feed (start + k))
contains_number start zero k l = absurd (omega arith)
contains_number start (suc n) zero l = let e : start ≡ start + 0 = omega arith in (zero, omega arith, ap (λ (i : ℕ). Feed i) e)
contains_number start (suc n) (suc k) l =
    let r = contains_number (start + 1) n k (omega arith) in
    let e : start + 1 + k ≡ start + suc k = omega arith in
    let at : Contains (map (λ k. Feed k) (numbers_from (start + 1) n)) (Feed (start + suc k)) = subst (λ (i : ℕ). Contains (map (λ k. Feed k) (numbers_from (start + 1) n)) (Feed i)) e r in
    (suc at.0, omega (arith, at.1), at.2)

pub contains_feed : (feeds actors k : ℕ) → k < feeds → Contains (sources feeds actors) (Feed (suc k))
contains_feed feeds actors k l =
    let e : 1 + k ≡ suc k = omega arith in
    contains_left (map (λ k. Feed k) (numbers_from 1 feeds)) (map (λ a. Actor a) (numbers_from 0 actors)) (Feed (suc k))
    (subst (λ (i : ℕ). Contains (map (λ k. Feed k) (numbers_from 1 feeds)) (Feed i)) e (contains_number 1 feeds k l))

-- ---- items

pub item_at : {X : Type 0} (xs : List X) (k : ℕ) → k < length xs → (x : X) × (slice_get xs k ≡ Some x)
item_at [] k l = absurd (omega (arith, l))
item_at (x ∷ xs) zero l = (x, refl)
item_at (x ∷ xs) (suc k) l = item_at xs k (omega (arith, l))

pub item_within : {X : Type 0} (xs : List X) (k : ℕ) (x : X) → slice_get xs k ≡ Some x → k < length xs
item_within [] k x e = absurd cc
item_within (y ∷ xs) zero x e = omega arith
item_within (y ∷ xs) (suc k) x e = let l = item_within xs k x e in omega (arith, l)
