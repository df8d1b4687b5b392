-- From what came from each source of an actor to the messages that it was given.
use Rattle.std.proofs.Common.{◌≡◌, ◌∙◌, ◌⊎◌, inl, inr, ℕ, ◌+◌, ◌<◌, ◌≤◌, List, [], ◌∷◌, ◌++◌, length, Bool, true, false, refl, ap, sym, subst, arith}
use Rattle.std.specs.Prelude.{if◌then◌else◌, nat_lt}
use Rattle.std.specs.List.{AllByRecursion, flat_map}
use Rattle.std.proofs.lemmas.Bool.{cases_lt}
use Rattle.std.proofs.lemmas.Bool.Decides.{nat_tests}
use Rattle.std.proofs.lemmas.List.Elements.{filter_map-append}
use Rattle.join_base.specs.declared.message.Message.{Message}
use Rattle.join_base.specs.declared.message.Stamped.{Stamped}
use Rattle.join_base.specs.declared.message.Source.{Source}
use Rattle.join_base.specs.declared.message.Source.TheVariants.{Feed, Actor}
use Rattle.pattern_core.specs.Members.{IsIn}
use Rattle.script_types.specs.declared.plan.Plan.{Plan}
use Rattle.script_types.specs.Typed.{kind_types}
use Rattle.fair_semantics.specs.declared.run.Limits.{Limits}
use Rattle.fair_semantics.specs.Step.{State}
use Rattle.fair_semantics.specs.Fair.{Sent, fair}
use Rattle.fair_semantics.specs.Fits.{SourceFits}
use Rattle.fair_semantics.specs.Linked.{arrived, given_by, rest_of, rests_by, rests_in_order, same_source, sources}
use Rattle.fair_semantics.specs.Schedule.{System}
use Rattle.run_order_law.proofs.EventLemmas.{if_from, sent_from}
use Rattle.run_order_law.proofs.GivenLemmas.{arrived_all, given_all, rests_none}
use Rattle.run_order_law.proofs.ListLemmas.{in_each}
use Rattle.run_order_law.proofs.SourceLemmas.{NoneOf, OneOf, actor_among, feed_among, one_or_none}
use Rattle.schedule_law.specs.Given.{AreFair, FairIsLinked, IsFairOf, IsGiven, came_from, sent_by}
use Rattle.schedule_law.specs.Reached.{IsServable}
use Rattle.schedule_law.proofs.GivenLemmas.{given_is_linked, in_from}

one_and_none : (source : Source) (xs : List Source) → OneOf source xs → NoneOf source xs → ⊥
one_and_none source [] one none = one
one_and_none source (x ∷ xs) (inl h) none = let both : true ≡ false = sym h.0 ∙ none.0 in cc
one_and_none source (x ∷ xs) (inr h) none = one_and_none source xs h.1 none.1

empty_left : {X : Type 0} (xs ys : List X) → xs ++ ys ≡ [] → xs ≡ []
empty_left [] ys e = refl
empty_left (x ∷ xs) ys e = absurd cc

module _ (plan : Plan) (limits : Limits) (feeds actor : ℕ) (came : Source → List Stamped) (state : State) (is : IsFairOf plan limits feeds actor came state) where
  abbrev all : List Source
  all = sources feeds (length plan.actors)

  abbrev pub given_all_by : List Sent
  given_all_by = given_by (kind_types plan.kinds) all came state.entries

  one_of : (source : Source) → SourceFits plan feeds source → OneOf source all
  one_of (Feed k) h = feed_among feeds (length plan.actors) k h.0 h.1
  one_of (Actor a) h = actor_among feeds (length plan.actors) a h

  -- from a source that is none of the run it was given nothing
  from_none : (source : Source) → NoneOf source all → sent_from source given_all_by ≡ came source
  from_none source none =
      elim (is.known source) [
        | inl empty ↦
            let arrivals = empty_left (sent_from source (arrived came state.entries)) _ (arrived_all came source [] state.entries [] (came source) refl refl (is.in_order source) ∙ empty) in
            filter_map-append (if_from source) (arrived came state.entries) (rests_by (kind_types plan.kinds) all came state.entries)
            ∙ (λ i. arrivals i ++ rests_none came state.entries source (kind_types plan.kinds) all none i) ∙ sym empty
        | inr known ↦ absurd (one_and_none source all (one_of source known) none)
      ]

  pub from_each : (source : Source) → sent_from source given_all_by ≡ came source
  from_each source =
      elim (one_or_none feeds (length plan.actors) source) [
        | inl one ↦ given_all came state.entries source (kind_types plan.kinds) all one (is.in_order source)
        | inr none ↦ from_none source none
      ]

  pub each_known : AllByRecursion (λ (sent : Sent). SourceFits plan feeds sent.0) given_all_by
  each_known = in_each (λ (sent : Sent). SourceFits plan feeds sent.0) given_all_by (λ s i.
      let here : IsIn s.1 (came s.0) = subst (λ (posts : List Stamped). IsIn s.1 posts) (from_each s.0) (in_from s.0 given_all_by s i refl) in
      elim (is.known s.0) [
        | inl empty ↦ absurd (subst (λ (posts : List Stamped). IsIn s.1 posts) empty here)
        | inr known ↦ known
      ])

module _ (plan : Plan) (limits : Limits) (feeds : List (List (ℕ × Message))) (came : ℕ → Source → List Stamped) (system : System) (are : AreFair plan limits feeds came system) where
  abbrev given : ℕ → List Sent
  given actor = if nat_lt actor (length plan.actors) then given_by (kind_types plan.kinds) (sources (length feeds) (length plan.actors)) (came actor) (system.state actor).entries else []

  inside : (actor : ℕ) → actor < length plan.actors → given actor ≡ given_by (kind_types plan.kinds) (sources (length feeds) (length plan.actors)) (came actor) (system.state actor).entries
  inside actor l =
      let yes : nat_lt actor (length plan.actors) ≡ true = grind (arith, nat_tests) in
      ap (λ (b : Bool). if b then given_by (kind_types plan.kinds) (sources (length feeds) (length plan.actors)) (came actor) (system.state actor).entries else []) yes

  outside : (actor : ℕ) → length plan.actors ≤ actor → given actor ≡ []
  outside actor l =
      let no : nat_lt actor (length plan.actors) ≡ false = grind (arith, nat_tests) in
      ap (λ (b : Bool). if b then given_by (kind_types plan.kinds) (sources (length feeds) (length plan.actors)) (came actor) (system.state actor).entries else []) no

  abbrev Known : List Sent → Type 0
  Known xs = AllByRecursion (λ (sent : Sent). SourceFits plan (length feeds) sent.0) xs

  pub all_given : IsGiven plan limits feeds given system
  all_given = record { known = known; none = outside; state = state; links = λ source actor. ap (λ (posts : List Stamped). posts ++ system.waiting source actor) (from source actor) ∙ are.links source actor }
    where
      known : (actor : ℕ) → Known (given actor)
      known actor =
          elim (cases_lt actor (length plan.actors)) [
            | inl l ↦ subst Known (sym (inside actor l)) (each_known plan limits (length feeds) actor (came actor) (system.state actor) (are.each actor l))
            | inr past ↦ subst Known (sym (outside actor past)) tt
          ]

      state : (actor : ℕ) → system.state actor ≡ fair plan actor limits (length feeds) (given actor)
      state actor =
          elim (cases_lt actor (length plan.actors)) [
            | inl l ↦ (are.each actor l).is_fair ∙ ap (fair plan actor limits (length feeds)) (sym (inside actor l))
            | inr past ↦ (are.others actor past).0 ∙ ap (fair plan actor limits (length feeds)) (sym (outside actor past))
          ]

      from : (source : Source) (actor : ℕ) → came_from source (given actor) ≡ came actor source
      from source actor =
          elim (cases_lt actor (length plan.actors)) [
            | inl l ↦ ap (came_from source) (inside actor l) ∙ from_each plan limits (length feeds) actor (came actor) (system.state actor) (are.each actor l) source
            | inr past ↦ ap (came_from source) (outside actor past) ∙ sym ((are.others actor past).1 source)
          ]

pub fair_is_linked : FairIsLinked
fair_is_linked plan limits feeds came system end pairs can are actors steps waits =
    given_is_linked plan limits feeds (given plan limits feeds came system are) system end pairs can (all_given plan limits feeds came system are) actors steps waits
