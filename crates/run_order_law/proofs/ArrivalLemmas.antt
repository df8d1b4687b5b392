-- The arrivals of all actors in some order, as events: each with the stamp that it carried.
use Rattle.std.proofs.Common.{◌≡◌, ◌∙◌, ℕ, suc, List, [], ◌∷◌, ◌++◌, length, map, Bool, true, false, None, Some, append_assoc, refl, ap, sym}
use Rattle.std.specs.Prelude.{if◌then◌else◌, ◌==◌}
use Rattle.std.specs.List.{cons_option}
use Rattle.std.proofs.lemmas.List.{append-nil}
use Rattle.std.proofs.lemmas.List.Elements.{filter_map-append}
use Rattle.join_base.specs.declared.message.Source.{Source}
use Rattle.join_base.specs.declared.message.Stamped.{Stamped}
use Rattle.fair_semantics.specs.declared.run.Entry.{Entry}
use Rattle.fair_semantics.specs.Fair.{Sent}
use Rattle.fair_semantics.specs.Linked.{arrived_after}
use Rattle.fair_semantics.proofs.CountedLemmas.{same_number}
use Rattle.run_order_law.proofs.EventLemmas.{Event, for_actor, if_to, pair_of, sent_to}
use Rattle.run_order_law.proofs.GivenLemmas.{carried}

pub arrived_after-append : (posts : Source → List Stamped) (before xs ys : List Entry) → arrived_after posts before (xs ++ ys) ≡ arrived_after posts before xs ++ arrived_after posts (before ++ xs) ys
arrived_after-append posts before [] ys = ap (λ (b : List Entry). arrived_after posts b ys) (sym (append-nil before))
arrived_after-append posts before (x ∷ xs) ys =
    ap (λ (s : List Sent). (x.source, carried posts before x) ∷ s) (arrived_after-append posts (before ++ x ∷ []) xs ys ∙ ap (λ (b : List Entry). arrived_after posts (before ++ x ∷ []) xs ++ arrived_after posts b ys) (append_assoc before (x ∷ []) xs))

pub length-arrived : (posts : Source → List Stamped) (before xs : List Entry) → length (arrived_after posts before xs) ≡ length xs
length-arrived posts before [] = refl
length-arrived posts before (x ∷ xs) = ap (λ (n : ℕ). suc n) (length-arrived posts (before ++ x ∷ []) xs)

-- what the sources of each actor sent it
module _ (posts : ℕ → Source → List Stamped) where
  abbrev pub event_of : List (ℕ × Entry) → (ℕ × Entry) → Event
  event_of before arrival = (arrival.0, (arrival.1.source, carried (posts arrival.0) (for_actor arrival.0 before) arrival.1))

  abbrev pub events_after : List (ℕ × Entry) → List (ℕ × Entry) → List Event
  events_after before [] = []
  events_after before (arrival ∷ more) = event_of before arrival ∷ events_after (before ++ arrival ∷ []) more

  pub pairs_of_events : (before arrivals : List (ℕ × Entry)) → map pair_of (events_after before arrivals) ≡ map (λ (arrival : ℕ × Entry). (arrival.0, arrival.1.source)) arrivals
  pairs_of_events before [] = refl
  pairs_of_events before (arrival ∷ more) = ap (λ (ps : List (ℕ × Source)). (arrival.0, arrival.1.source) ∷ ps) (pairs_of_events (before ++ arrival ∷ []) more)

  pub events_one_more : (before arrivals : List (ℕ × Entry)) (arrival : ℕ × Entry) → events_after before (arrivals ++ arrival ∷ []) ≡ events_after before arrivals ++ event_of (before ++ arrivals) arrival ∷ []
  events_one_more before [] arrival = ap (λ (b : List (ℕ × Entry)). event_of b arrival ∷ []) (sym (append-nil before))
  events_one_more before (x ∷ arrivals) arrival =
      ap (λ (es : List Event). event_of before x ∷ es) (events_one_more (before ++ x ∷ []) arrivals arrival ∙ ap (λ (b : List (ℕ × Entry)). events_after (before ++ x ∷ []) arrivals ++ event_of b arrival ∷ []) (append_assoc before (x ∷ []) arrivals))

  -- what the events of the arrivals give to an actor
  pub sent_events : (actor : ℕ) (before arrivals : List (ℕ × Entry)) → sent_to actor (events_after before arrivals) ≡ arrived_after (posts actor) (for_actor actor before) (for_actor actor arrivals)
  sent_events actor before [] = refl
  sent_events actor before (x ∷ arrivals) = by (actor == x.0) refl (sent_events actor (before ++ x ∷ []) arrivals)
    where
      more : (b : Bool) → (actor == x.0) ≡ b → for_actor actor (before ++ x ∷ []) ≡ for_actor actor before ++ cons_option (if b then Some x.1 else None) []
      more b e = filter_map-append (if_to actor) before (x ∷ []) ∙ ap (λ (c : Bool). for_actor actor before ++ cons_option (if c then Some x.1 else None) []) e

      by : (b : Bool) → (actor == x.0) ≡ b → sent_to actor (events_after (before ++ x ∷ []) arrivals) ≡ arrived_after (posts actor) (for_actor actor (before ++ x ∷ [])) (for_actor actor arrivals)
          → cons_option (if b then Some (event_of before x).1 else None) (sent_to actor (events_after (before ++ x ∷ []) arrivals)) ≡ arrived_after (posts actor) (for_actor actor before) (cons_option (if b then Some x.1 else None) (for_actor actor arrivals))
      by false e later = later ∙ ap (λ (es : List Entry). arrived_after (posts actor) es (for_actor actor arrivals)) (more false e ∙ append-nil (for_actor actor before))
      by true e later =
          let same : actor ≡ x.0 = same_number actor x.0 e in
          let first : (event_of before x).1 ≡ (x.1.source, carried (posts actor) (for_actor actor before) x.1) = ap (λ (n : ℕ). (x.1.source, carried (posts n) (for_actor n before) x.1)) (sym same) in
          let others : sent_to actor (events_after (before ++ x ∷ []) arrivals) ≡ arrived_after (posts actor) (for_actor actor before ++ x.1 ∷ []) (for_actor actor arrivals) = later ∙ ap (λ (es : List Entry). arrived_after (posts actor) es (for_actor actor arrivals)) (more true e) in
          λ i. first i ∷ others i
