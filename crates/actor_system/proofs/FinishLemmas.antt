-- Where nothing waits, the runs of the actors are those of a linked run.
use Rattle.std.proofs.Common.{◌≡◌, ◌∙◌, inl, inr, ℕ, zero, suc, ◌+◌, ◌<◌, List, [], ◌∷◌, length, map, Bool, true, false, Option, Some, slice_get, refl, ap, sym, subst, arith}
use Rattle.std.specs.Prelude.{◌||◌}
use Rattle.std.specs.List.{list_any}
use Rattle.std.proofs.lemmas.Bool.{cases_lt}
use Rattle.std.proofs.lemmas.Option.{slice_get_past}
use Rattle.join_base.specs.declared.message.Stamped.{Stamped}
use Rattle.join_base.specs.declared.message.Source.{Source}
use Rattle.join_base.specs.declared.message.Source.TheVariants.{Feed, Actor}
use Rattle.pattern_core.specs.Members.{IsIn}
use Rattle.pattern_core.proofs.MembersLemmas.{IsIn-flat_map, IsIn-map}
use Rattle.fair_semantics.specs.declared.run.ActorRun.{ActorRun}
use Rattle.fair_semantics.specs.Fair.{run_of, setting_of}
use Rattle.fair_semantics.specs.Linked.{IsLinked, numbers_from, sources}
use Rattle.fair_semantics.specs.Step.{opening}
use Rattle.run_order_law.specs.Order.{shown}
use Rattle.run_order_law.proofs.SourceLemmas.{OneOf, actor_among, feed_among}
use Rattle.schedule_law.specs.Reached.{NothingWaits}
use Rattle.schedule_law.proofs.FitLemmas.{schedules_are_linked}
use Rattle.schedule_law.proofs.SettledLemmas.{one_is_in}
use Rattle.actor_turn.specs.Held.{Held}
use Rattle.actor_system.specs.Serving.{Serving, fed_by, is_some_post, links_of, links_to, place_in, posted_by, run_in, some_waits, state_in, system_in, waiting_in, waits_on}
use Rattle.actor_system.specs.Inside.{IsSound}

none_of_any : {X : Type 0} (f : X → Bool) (xs : List X) (x : X) → IsIn x xs → list_any f xs ≡ false → f x ≡ false
none_of_any f [] x i e = absurd i
none_of_any f (y ∷ xs) x (inl is) e = by (f y) refl e
  where
    by : (b : Bool) → f y ≡ b → (b || list_any f xs) ≡ false → f x ≡ false
    by true here h = absurd cc
    by false here h = ap f (sym is) ∙ here
none_of_any f (y ∷ xs) x (inr i) e = by (f y) e (none_of_any f xs x i)
  where
    by : (b : Bool) → (b || list_any f xs) ≡ false → (list_any f xs ≡ false → f x ≡ false) → f x ≡ false
    by true h later = absurd cc
    by false h later = later h

number_in : (start k n : ℕ) → k < n → IsIn (start + k) (numbers_from start n)
number_in start k zero l = absurd (omega arith)
number_in start zero (suc n) l = let e : start ≡ start + 0 = omega arith in inl e
number_in start (suc k) (suc n) l = let e : start + 1 + k ≡ start + suc k = omega arith in inr (subst (λ (m : ℕ). IsIn m (numbers_from (start + 1) n)) e (number_in (start + 1) k n (omega arith)))

module _ (s : Serving) (none : some_waits s ≡ false) where
  on_link : (source : Source) (actor : ℕ) → OneOf source (sources (length s.feeds) (length s.plan.actors)) → actor < length s.plan.actors → waiting_in s source actor ≡ []
  on_link source actor one l =
      let target : IsIn (0 + actor) (numbers_from 0 (length s.plan.actors)) = number_in 0 actor (length s.plan.actors) l in
      let e : 0 + actor ≡ actor = omega arith in
      let own : IsIn actor (numbers_from 0 (length s.plan.actors)) = subst (λ (n : ℕ). IsIn n (numbers_from 0 (length s.plan.actors))) e target in
      let link : IsIn (actor, source) (links_to s actor) = IsIn-map (λ x. (actor, x)) source (sources (length s.feeds) (length s.plan.actors)) (one_is_in source (sources (length s.feeds) (length s.plan.actors)) one) in
      empty (waiting_in s source actor) (none_of_any (waits_on (system_in s)) (links_of s) (actor, source) (IsIn-flat_map (links_to s) actor (actor, source) (numbers_from 0 (length s.plan.actors)) own link) none)
    where
      empty : (posts : List Stamped) → is_some_post posts ≡ false → posts ≡ []
      empty [] h = refl
      empty (post ∷ posts) h = absurd cc

  module _ (sound : IsSound s) where
    nothing : NothingWaits s.plan (system_in s)
    nothing (Feed zero) actor l = refl
    nothing (Feed (suc k)) actor l =
        elim (cases_lt k (length s.feeds)) [
          | inl within ↦ on_link (Feed (suc k)) actor (feed_among (length s.feeds) (length s.plan.actors) (suc k) (omega arith) (omega arith)) l
          | inr past ↦ ap (λ (o : Option (List _)). fed_by o (place_in s.places k actor) actor) (slice_get_past s.feeds k (omega arith))
        ]
    nothing (Actor a) actor l =
        elim (cases_lt a (length s.plan.actors)) [
          | inl within ↦ on_link (Actor a) actor (actor_among (length s.feeds) (length s.plan.actors) a within) l
          | inr past ↦ ap (λ (o : Option Held). posted_by o actor) (slice_get_past s.actors a (omega (arith, sound.members.count)))
        ]

    pub links : IsLinked s.plan s.limits s.feeds (shown s.plan s.limits s.feeds (system_in s))
    links = schedules_are_linked s.plan s.limits s.feeds (system_in s) sound.can sound.reached nothing

-- the runs of the actors, one after the other
module _ (f : ℕ → ActorRun) where
  each_run : (from : ℕ) (helds : List Held) → ((k : ℕ) (held : Held) → slice_get helds k ≡ Some held → run_in held ≡ f (from + k)) → map run_in helds ≡ map f (numbers_from from (length helds))
  each_run from [] h = refl
  each_run from (held ∷ helds) h =
      let e : from + 0 ≡ from = omega arith in
      let first : run_in held ≡ f from = h 0 held refl ∙ ap f e in
      let later = each_run (from + 1) helds (λ k x is. let n : from + suc k ≡ from + 1 + k = omega arith in h (suc k) x is ∙ ap f n) in
      λ i. first i ∷ later i

module _ (s : Serving) (sound : IsSound s) where
  pub runs_are : map run_in s.actors ≡ map (λ actor. run_of (setting_of s.plan actor s.limits).rules ((system_in s).state actor)) (numbers_from 0 (length s.plan.actors))
  runs_are =
      each_run (λ actor. run_of (setting_of s.plan actor s.limits).rules ((system_in s).state actor)) 0 s.actors
      (λ k held is.
      let e : k ≡ 0 + k = omega arith in
      let told = (sound.members.each k held is).told in
      let state : held.state ≡ (system_in s).state k = sym (ap (state_in (opening (length s.feeds) (length s.plan.actors))) is) in
      (λ i. run_of (told i).rules (state i)) ∙ ap (λ (n : ℕ). run_of (setting_of s.plan n s.limits).rules ((system_in s).state n)) e)
      ∙ ap (λ (n : ℕ). map (λ actor. run_of (setting_of s.plan actor s.limits).rules ((system_in s).state actor)) (numbers_from 0 n)) sound.members.count

  -- the run that is made of them
  pub finished : (limits : _) (feeds : ℕ) (actors : List ActorRun) → limits ≡ s.limits → feeds ≡ length s.feeds → actors ≡ map run_in s.actors → record { version = 2; limits = limits; feeds = feeds; actors = actors } ≡ shown s.plan s.limits s.feeds (system_in s)
  finished limits feeds actors l f a = λ i. record { version = 2; limits = l i; feeds = f i; actors = (a ∙ runs_are) i }
