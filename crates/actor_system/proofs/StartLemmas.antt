-- A new system: each actor in its opening state, and the feeds' posts waiting.
use Rattle.std.proofs.Common.{◌≡◌, ◌∙◌, inl, inr, ℕ, zero, suc, ◌+◌, ◌<◌, List, [], length, Option, None, Some, slice_get, slice_index_or, replicate, refl, ap, sym, subst, arith}
use Rattle.std.proofs.lemmas.Bool.{cases_lt}
use Rattle.std.proofs.lemmas.List.{length-map, length-replicate}
use Rattle.std.proofs.lemmas.Option.{slice_get_past, slice_get_within}
use Rattle.join_base.specs.declared.message.Message.{Message}
use Rattle.join_base.specs.declared.message.Source.{Source}
use Rattle.join_base.specs.declared.message.Source.TheVariants.{Feed, Actor}
use Rattle.script_types.specs.declared.plan.Plan.{Plan}
use Rattle.script_types.specs.Typed.{IsTyped}
use Rattle.fair_semantics.specs.declared.run.Limits.{Limits}
use Rattle.fair_semantics.specs.Fits.{IsFrom1To}
use Rattle.fair_semantics.specs.Linked.{feed_posts, numbers_from}
use Rattle.fair_semantics.specs.Schedule.{system_at_first, waiting_at_first}
use Rattle.fair_semantics.specs.Step.{opening}
use Rattle.fair_semantics.proofs.ListLemmas.{each_replicate}
use Rattle.fair_semantics.proofs.NumberLemmas.{count_numbers, get_numbers}
use Rattle.schedule_law.specs.Reached.{FeedsFit, IsReached}
use Rattle.schedule_law.proofs.StandLemmas.{reached_first}
use Rattle.actor_turn.specs.Held.{AreLimits, Held, new_actor}
use Rattle.actor_system.specs.Opening.{RulesInRange, new_actors, rows_of}
use Rattle.actor_system.specs.Serving.{Serving, StandsAt, fed_by, place_in, posted_by, state_in, system_in, waiting_in}
use Rattle.actor_system.specs.Inside.{AreMembers, IsMember, IsSound}

none_at : {X : Type 0} (n k : ℕ) (x : X) → slice_index_or (replicate n x) k x ≡ x
none_at zero k x = refl
none_at (suc n) zero x = refl
none_at (suc n) (suc k) x = none_at n k x

zero_place : (rows width k t : ℕ) → place_in (rows_of rows width) k t ≡ 0
zero_place zero width k t = refl
zero_place (suc rows) width zero t = none_at width t 0
zero_place (suc rows) width (suc k) t = zero_place rows width k t

module _ (plan : Plan) (limits : Limits) (feeds : List (List (ℕ × Message))) where
  abbrev n : ℕ
  n = length plan.actors

  abbrev actors : List Held
  actors = new_actors plan limits (length feeds) n

  abbrev pub first : Serving
  first = record { plan = plan; limits = limits; feeds = feeds; places = rows_of (length feeds) n; actors = actors }

  count : length actors ≡ n
  count = length-map (numbers_from 0 n) (λ index. new_actor plan index limits (length feeds)) ∙ count_numbers 0 n

  there : (actor : ℕ) → actor < n → slice_get actors actor ≡ Some (new_actor plan actor limits (length feeds))
  there actor l = let e : 0 + actor ≡ actor = omega arith in get_numbers (λ index. new_actor plan index limits (length feeds)) 0 n actor l ∙ ap (λ (k : ℕ). Some (new_actor plan k limits (length feeds))) e

  system_is : system_in first ≡ system_at_first plan feeds
  system_is = λ i. record { state = λ actor. states actor i; waiting = λ from t. waitings from t i }
    where
      states : (actor : ℕ) → (system_in first).state actor ≡ opening (length feeds) n
      states actor =
          elim (cases_lt actor n) [
            | inl within ↦ ap (state_in (opening (length feeds) n)) (there actor within)
            | inr past ↦ ap (state_in (opening (length feeds) n)) (slice_get_past actors actor (omega (arith, count)))
          ]

      fed : (o : Option (List (ℕ × Message))) (t : ℕ) → fed_by o 0 t ≡ feed_posts t o
      fed None t = refl
      fed (Some posts) t = refl

      waitings : (from : Source) (t : ℕ) → waiting_in first from t ≡ waiting_at_first feeds from t
      waitings (Feed zero) t = refl
      waitings (Feed (suc k)) t = ap (λ (p : ℕ). fed_by (slice_get feeds k) p t) (zero_place (length feeds) n k t) ∙ fed (slice_get feeds k) t
      waitings (Actor a) t =
          elim (cases_lt a n) [
            | inl within ↦ ap (λ (o : Option Held). posted_by o t) (there a within) ∙ none_at n t []
            | inr past ↦ ap (λ (o : Option Held). posted_by o t) (slice_get_past actors a (omega (arith, count)))
          ]

  members : AreMembers plan limits (length feeds) (rows_of (length feeds) n) actors
  members = record { count = count; each = each; rows = length-replicate (length feeds) (replicate n 0); row = each_replicate (λ (row : List ℕ). length row ≡ n) (length feeds) (replicate n 0) (length-replicate n 0) }
    where
      own : (actor : ℕ) → IsMember plan limits actor (new_actor plan actor limits (length feeds))
      own actor = record { told = refl; outboxes = length-replicate n []; lent = length-replicate n _ }

      each : (actor : ℕ) (held : Held) → slice_get actors actor ≡ Some held → IsMember plan limits actor held
      each actor held is =
          let l : actor < n = let within = slice_get_within actors actor held is in omega (arith, count) in
          let same : new_actor plan actor limits (length feeds) ≡ held = some_is (sym (there actor l) ∙ is) in
          subst (λ (h : Held). IsMember plan limits actor h) same (own actor)
        where
          some_is : {x y : Held} → Some x ≡ Some y → x ≡ y
          some_is e = cc

  pub starts : IsTyped plan → AreLimits limits → IsFrom1To 16 (length feeds) → FeedsFit feeds → RulesInRange plan limits n → (places : List (List ℕ)) (helds : List Held) → places ≡ rows_of (length feeds) n → helds ≡ actors
      → let s : Serving = record { plan = plan; limits = limits; feeds = feeds; places = places; actors = helds } in IsSound s × StandsAt plan limits feeds (system_at_first plan feeds) s
  starts typed limited few values rules places helds rows are =
      let P : Serving → Type 0 = λ s. IsSound s × StandsAt plan limits feeds (system_at_first plan feeds) s in
      let at : P first = (
        record {
          can = record { typed = typed; rules = rules; limited = record { arrivals = limited.arrivals; partials = limited.partials }; count = few; values = values };
          members = members;
          reached = subst (IsReached plan limits feeds) (sym system_is) (reached_first plan limits feeds);
        },
        record { same_plan = refl; same_limits = refl; same_feeds = refl; system_is = system_is },
      ) in
      subst (λ (ps : List (List ℕ)). P record { plan = plan; limits = limits; feeds = feeds; places = ps; actors = helds }) (sym rows)
      (subst (λ (hs : List Held). P record { plan = plan; limits = limits; feeds = feeds; places = rows_of (length feeds) n; actors = hs }) (sym are) at)
