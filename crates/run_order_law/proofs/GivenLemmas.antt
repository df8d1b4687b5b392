-- What an actor was given from a source is what that source sent it.
use Rattle.std.proofs.Common.{◌≡◌, ◌∙◌, List, [], ◌∷◌, ◌++◌, length, map, take, drop, Bool, true, false, None, Some, slice_get, append_assoc, length-append, refl, ap, sym, arith}
use Rattle.std.specs.Prelude.{if◌then◌else◌}
use Rattle.std.specs.List.{cons_option, flat_map}
use Rattle.std.proofs.lemmas.List.{append-nil}
use Rattle.std.proofs.lemmas.List.Elements.{filter_map-append}
use Rattle.join_base.specs.declared.message.Sort.{Sort}
use Rattle.join_base.specs.declared.message.Message.{Message}
use Rattle.join_base.specs.declared.message.Stamped.{Stamped}
use Rattle.join_base.specs.declared.message.Source.{Source}
use Rattle.fair_semantics.specs.declared.run.Entry.{Entry}
use Rattle.fair_semantics.specs.Linked.{arrived, arrived_after, given_by, message_from, messages_of, rest_of, rests_in_order, same_source, stamp_at, taken_from}
use Rattle.run_order_law.proofs.EventLemmas.{if_from, same_source_is, sent_from}
use Rattle.run_order_law.proofs.SourceLemmas.{NoneOf, OneOf}
use Rattle.run_order_law.proofs.RestLemmas.{all_from, none_apart, none_left, one_apart, one_left_over, order_same}
use Rattle.run_order_law.proofs.ListLemmas.{at_front}

-- ---- the arrivals

-- the message where it was taken, and those taken later
abbrev taken_or_not : Bool → Message → List Message → List Message
taken_or_not b message later = cons_option (if b then Some message else None) later

module _ (posts : Source → List Stamped) where
  -- an arrival as it was sent, behind these entries
  abbrev pub carried : List Entry → Entry → Stamped
  carried before e = record { message = e.message; stamp = stamp_at (slice_get (posts e.source) (length (taken_from e.source before))) }

  -- the arrivals from a source, followed by the rest of its posts, are its posts
  abbrev pub AreFrom : Source → List Entry → List Entry → Type 0
  AreFrom source before entries =
      (front next : List Stamped) → posts source ≡ front ++ next → length front ≡ length (taken_from source before) → taken_from source entries ≡ take (length (taken_from source entries)) (messages_of next)
      → sent_from source (arrived_after posts before entries) ++ drop (length (taken_from source entries)) next ≡ next

  one_arrived : (source : Source) (before : List Entry) (e : Entry) (entries : List Entry) → AreFrom source (before ++ e ∷ []) entries → AreFrom source before (e ∷ entries)
  one_arrived source before e entries recur front next is count first = by (same_source e.source source) refl next is first
    where
      more : (b : Bool) → same_source e.source source ≡ b → taken_from source (before ++ e ∷ []) ≡ taken_from source before ++ cons_option (if b then Some e.message else None) []
      more b same = filter_map-append (message_from source) before (e ∷ []) ∙ ap (λ (x : Bool). taken_from source before ++ cons_option (if x then Some e.message else None) []) same

      by : (b : Bool) → same_source e.source source ≡ b → (ns : List Stamped) → posts source ≡ front ++ ns → taken_or_not b e.message (taken_from source entries) ≡ take (length (taken_or_not b e.message (taken_from source entries))) (messages_of ns)
          → cons_option (if b then Some (carried before e) else None) (sent_from source (arrived_after posts (before ++ e ∷ []) entries)) ++ drop (length (taken_or_not b e.message (taken_from source entries))) ns ≡ ns
      by false same ns i f = recur front ns i (count ∙ sym (ap length (more false same ∙ append-nil (taken_from source before)))) f
      by true same [] i f = absurd cc
      by true same (p ∷ ns) i f =
          let message : e.message ≡ p.message = cc f in
          let others : taken_from source entries ≡ take (length (taken_from source entries)) (messages_of ns) = cc f in
          let from : e.source ≡ source = same_source_is e.source source same in
          let place : slice_get (posts e.source) (length (taken_from e.source before)) ≡ Some p = (λ j. slice_get (posts (from j)) (length (taken_from (from j) before))) ∙ (λ j. slice_get (i j) (sym count j)) ∙ at_front front p ns in
          let stamp : stamp_at (slice_get (posts e.source) (length (taken_from e.source before))) ≡ p.stamp = ap stamp_at place in
          let is_post : carried before e ≡ p = λ j. record { message = message j; stamp = stamp j } in
          let next_front : posts source ≡ (front ++ p ∷ []) ++ ns = i ∙ sym (append_assoc front (p ∷ []) ns) in
          let next_count : length (front ++ p ∷ []) ≡ length (taken_from source (before ++ e ∷ [])) = omega (arith, length-append front (p ∷ []), length-append (taken_from source before) (e.message ∷ []), ap length (more true same)) in
          λ j. is_post j ∷ recur (front ++ p ∷ []) ns next_front next_count others j

  pub arrived_all : (source : Source) (before entries : List Entry) → AreFrom source before entries
  arrived_all source before [] = λ front next is count first. refl
  arrived_all source before (e ∷ entries) = one_arrived source before e entries (arrived_all source (before ++ e ∷ []) entries)

module _ (posts : Source → List Stamped) (entries : List Entry) (source : Source) where
  -- what an actor was given from a source: all its posts
  pub given_all : (sorts : List (List Sort)) (xs : List Source) → OneOf source xs → taken_from source entries ≡ take (length (taken_from source entries)) (messages_of (posts source))
      → sent_from source (given_by sorts xs posts entries) ≡ posts source
  given_all sorts xs one first =
      filter_map-append (if_from source) (arrived posts entries) (flat_map (λ sent. sent) (rests_in_order sorts (map (rest_of posts entries) xs)))
      ∙ ap (λ (ps : List Stamped). sent_from source (arrived posts entries) ++ ps) (order_same source sorts (map (rest_of posts entries) xs) (one_apart posts entries source xs one) ∙ one_left_over posts entries source xs one)
      ∙ arrived_all posts source [] entries [] (posts source) refl refl first

  -- from another it was given nothing behind its arrivals
  pub rests_none : (sorts : List (List Sort)) (xs : List Source) → NoneOf source xs → all_from source (rests_in_order sorts (map (rest_of posts entries) xs)) ≡ []
  rests_none sorts xs none = order_same source sorts (map (rest_of posts entries) xs) (none_apart posts entries source xs none) ∙ none_left posts entries source xs none
