-- The system after some events, and that an event whose post waits is a step.
use Rattle.std.proofs.Common.{◌≡◌, ◌∙◌, ℕ, zero, suc, List, [], ◌∷◌, ◌++◌, length, Bool, true, false, Option, None, Some, slice_get, refl, ap, arith}
use Rattle.std.specs.Prelude.{if◌then◌else◌, ◌==◌}
use Rattle.std.specs.List.{cons_option, filter_map, flat_map}
use Rattle.std.proofs.lemmas.List.{append-nil}
use Rattle.std.proofs.lemmas.List.Elements.{filter_map-append}
use Rattle.std.proofs.lemmas.Bool.Decides.{nat_tests, Decides-eqb}
use Rattle.join_base.specs.declared.message.Message.{Message}
use Rattle.join_base.specs.declared.message.Stamped.{Stamped}
use Rattle.join_base.specs.declared.message.Source.{Source}
use Rattle.join_base.specs.declared.message.Source.TheVariants.{Feed, Actor}
use Rattle.script_types.specs.declared.plan.Plan.{Plan}
use Rattle.fair_semantics.specs.declared.run.Limits.{Limits}
use Rattle.fair_semantics.specs.Step.{Setting, State, fair_step, opening}
use Rattle.fair_semantics.specs.Fair.{Sent, after_all, setting_of}
use Rattle.fair_semantics.specs.Linked.{entry_posts, feed_posts, same_source}
use Rattle.fair_semantics.specs.Schedule.{System, system_at_first, waiting_at_first}
pub use Rattle.fair_semantics.proofs.CountedLemmas.{same_number}
use Rattle.fair_semantics.proofs.FairLemmas.{after_all-append}
pub use Rattle.run_order_law.specs.Sorted.{for_actor, if_to}

-- an actor, and what it is given
abbrev pub Event : Type 0
Event = ℕ × Sent

abbrev pub pair_of : Event → (ℕ × Source)
pair_of event = (event.0, event.1.0)

abbrev pub sent_to : ℕ → List Event → List Sent
sent_to actor events = for_actor actor events

abbrev pub if_from : Source → Sent → Option Stamped
if_from source sent = if same_source sent.0 source then Some sent.1 else None

abbrev pub sent_from : Source → List Sent → List Stamped
sent_from source sent = filter_map (if_from source) sent

-- ---- tests

pub same_source_is : (s t : Source) → same_source s t ≡ true → s ≡ t
same_source_is (Feed j) (Feed k) e = ap (λ (n : ℕ). Feed n) (same_number j k e)
same_source_is (Feed j) (Actor b) e = absurd cc
same_source_is (Actor a) (Feed k) e = absurd cc
same_source_is (Actor a) (Actor b) e = ap (λ (n : ℕ). Actor n) (same_number a b e)

number_swap : (a b : ℕ) → (a == b) ≡ (b == a)
number_swap a b = grind (arith, nat_tests)

pub same_source_swap : (s t : Source) → same_source s t ≡ same_source t s
same_source_swap (Feed j) (Feed k) = number_swap j k
same_source_swap (Feed j) (Actor b) = refl
same_source_swap (Actor a) (Feed k) = refl
same_source_swap (Actor a) (Actor b) = number_swap a b

-- ---- lists

-- what stands behind the first ones begins with this one
pub record Begins (post : Stamped) (posts : List Stamped) : Type 0 where
  pub rest : List Stamped
  pub is : posts ≡ post ∷ rest

pub begins_behind : (front posts : List Stamped) (post : Stamped) → slice_get (front ++ posts) (length front) ≡ Some post → Begins post posts
begins_behind [] [] post e = absurd cc
begins_behind [] (p ∷ posts) post e = let same : p ≡ post = cc in record { rest = posts; is = ap (λ (x : Stamped). x ∷ posts) same }
begins_behind (f ∷ front) posts post e = begins_behind front posts post e

-- ---- the system after some events

module _ (plan : Plan) (limits : Limits) (feeds : List (List (ℕ × Message))) where
  abbrev pub state_at : List Event → ℕ → State
  state_at before actor = after_all (setting_of plan actor limits) (opening (length feeds) (length plan.actors)) (sent_to actor before)

  -- what a source has sent to an actor so far: a feed all
  abbrev pub made : List Event → Source → ℕ → List Stamped
  made before (Feed zero) target = []
  made before (Feed (suc k)) target = feed_posts target (slice_get feeds k)
  made before (Actor a) target = flat_map (entry_posts target) (state_at before a).entries

  -- each actor did the steps of what it was given, and what it was given from a source, followed by what waits, is what
  -- that source sent
  pub record IsSystemAt (before : List Event) (system : System) : Type 0 where
    pub state : (actor : ℕ) → system.state actor ≡ state_at before actor
    pub links : (source : Source) (target : ℕ) → sent_from source (sent_to target before) ++ system.waiting source target ≡ made before source target

  -- the post of the event is the next of its link, and is made
  abbrev pub Waits : List Event → Event → Type 0
  Waits before event = slice_get (made before event.1.0 event.0) (length (sent_from event.1.0 (sent_to event.0 before))) ≡ Some event.1.1

  pub at_first : IsSystemAt [] (system_at_first plan feeds)
  at_first = record { state = λ actor. refl; links = none }
    where
      none : (source : Source) (target : ℕ) → waiting_at_first feeds source target ≡ made [] source target
      none (Feed zero) target = refl
      none (Feed (suc k)) target = refl
      none (Actor a) target = refl

  module _ (before : List Event) (event : Event) where
    abbrev pub later : List Event
    later = before ++ event ∷ []

    pub sent_later : (actor : ℕ) → sent_to actor later ≡ sent_to actor before ++ cons_option (if_to actor event) []
    sent_later actor = filter_map-append (if_to actor) before (event ∷ [])

    -- the state of the actor of the event, and of the others
    pub moves : (actor : ℕ) → (actor == event.0) ≡ true → state_at later actor ≡ (fair_step (setting_of plan actor limits) (state_at before actor) event.1.0 event.1.1.message event.1.1.stamp).0
    moves actor e =
        let s : sent_to actor later ≡ sent_to actor before ++ event.1 ∷ [] = sent_later actor ∙ ap (λ (b : Bool). sent_to actor before ++ cons_option (if b then Some event.1 else None) []) e in
        ap (after_all (setting_of plan actor limits) (opening (length feeds) (length plan.actors))) s ∙ after_all-append (setting_of plan actor limits) (opening (length feeds) (length plan.actors)) (sent_to actor before) (event.1 ∷ [])

    pub same_sent : (actor : ℕ) → (actor == event.0) ≡ false → sent_to actor later ≡ sent_to actor before
    same_sent actor e = sent_later actor ∙ ap (λ (b : Bool). sent_to actor before ++ cons_option (if b then Some event.1 else None) []) e ∙ append-nil (sent_to actor before)

    pub stays : (actor : ℕ) → (actor == event.0) ≡ false → state_at later actor ≡ state_at before actor
    stays actor e = ap (after_all (setting_of plan actor limits) (opening (length feeds) (length plan.actors))) (same_sent actor e)
