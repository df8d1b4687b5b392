-- The rests of the sources, in any order in which they come: of each source there is one.
use Rattle.std.proofs.Common.{◌≡◌, ◌∙◌, ◌⊎◌, inl, inr, List, [], ◌∷◌, ◌++◌, length, map, drop, Bool, true, false, None, Some, refl, ap, sym}
use Rattle.std.specs.Prelude.{if◌then◌else◌}
use Rattle.std.specs.List.{cons_option, flat_map, list_any}
use Rattle.std.proofs.lemmas.List.{append-nil}
use Rattle.std.proofs.lemmas.List.Elements.{filter_map-append}
use Rattle.join_base.specs.declared.message.Sort.{Sort}
use Rattle.join_base.specs.declared.message.Stamped.{Stamped}
use Rattle.join_base.specs.declared.message.Source.{Source}
use Rattle.fair_semantics.specs.declared.run.Entry.{Entry}
use Rattle.fair_semantics.specs.Fair.{Sent}
use Rattle.fair_semantics.specs.Linked.{behind_first, brought_first, greatest_start, rest_of, rests_in_order, same_source, starts_unfit, starts_with, taken_from}
use Rattle.run_order_law.proofs.EventLemmas.{if_from, same_source_is, sent_from}
use Rattle.run_order_law.proofs.SourceLemmas.{NoneOf, OneOf}

abbrev pub all_from : Source → List (List Sent) → List Stamped
all_from source rests = sent_from source (flat_map (λ sent. sent) rests)

from_more : (source : Source) (rest : List Sent) (rests : List (List Sent)) → all_from source (rest ∷ rests) ≡ sent_from source rest ++ all_from source rests
from_more source rest rests = filter_map-append (if_from source) rest (flat_map (λ sent. sent) rests)

-- at most one of the rests is of this source
abbrev pub Apart : Source → List (List Sent) → Type 0
Apart source [] = Unit {0}
Apart source (rest ∷ rests) = ((sent_from source rest ≡ []) ⊎ (all_from source rests ≡ [])) × Apart source rests

swapped : (xs ys zs : List Stamped) → (xs ≡ []) ⊎ (ys ++ zs ≡ []) → ys ++ (xs ++ zs) ≡ xs ++ (ys ++ zs)
swapped xs ys zs (inl e) = (λ i. ys ++ (e i ++ zs)) ∙ (λ i. sym e i ++ (ys ++ zs))
swapped xs [] zs (inr e) = refl
swapped xs (y ∷ ys) zs (inr e) = absurd cc

module _ (source : Source) (leads : List Sent → Bool) where
  behind_same : (rest : List Sent) (rests brought : List (List Sent)) → (sent_from source rest ≡ []) ⊎ (all_from source rests ≡ []) → all_from source brought ≡ all_from source rests → all_from source (behind_first leads rest brought) ≡ all_from source (rest ∷ rests)
  behind_same rest rests [] apart same = from_more source rest [] ∙ ap (λ (ps : List Stamped). sent_from source rest ++ ps) same ∙ sym (from_more source rest rests)
  behind_same rest rests (first ∷ others) apart same = by (leads first)
    where
      parts : sent_from source first ++ all_from source others ≡ all_from source rests
      parts = sym (from_more source first others) ∙ same

      whole : sent_from source rest ++ (sent_from source first ++ all_from source others) ≡ all_from source (rest ∷ rests)
      whole = ap (λ (ps : List Stamped). sent_from source rest ++ ps) parts ∙ sym (from_more source rest rests)

      none : (sent_from source rest ≡ []) ⊎ (sent_from source first ++ all_from source others ≡ [])
      none = elim apart [ inl e ↦ inl e | inr e ↦ inr (parts ∙ e) ]

      by : (b : Bool) → all_from source (if b then first ∷ rest ∷ others else rest ∷ first ∷ others) ≡ all_from source (rest ∷ rests)
      by true =
          from_more source first (rest ∷ others) ∙ ap (λ (ps : List Stamped). sent_from source first ++ ps) (from_more source rest others)
          ∙ swapped (sent_from source rest) (sent_from source first) (all_from source others) none ∙ whole
      by false = from_more source rest (first ∷ others) ∙ ap (λ (ps : List Stamped). sent_from source rest ++ ps) (from_more source first others) ∙ whole

  brought_same : (rests : List (List Sent)) → Apart source rests → all_from source (brought_first leads rests) ≡ all_from source rests
  brought_same [] apart = refl
  brought_same (rest ∷ rests) apart = by (leads rest) (brought_same rests apart.1)
    where
      by : (b : Bool) → all_from source (brought_first leads rests) ≡ all_from source rests → all_from source (if b then rest ∷ rests else behind_first leads rest (brought_first leads rests)) ≡ all_from source (rest ∷ rests)
      by true same = refl
      by false same = behind_same rest rests (brought_first leads rests) apart.0 same

pub order_same : (source : Source) (sorts : List (List Sort)) (rests : List (List Sent)) → Apart source rests → all_from source (rests_in_order sorts rests) ≡ all_from source rests
order_same source sorts rests apart = by (list_any (starts_unfit sorts) rests)
  where
    by : (b : Bool) → all_from source (if b then brought_first (starts_unfit sorts) rests else brought_first (starts_with (greatest_start rests)) rests) ≡ all_from source rests
    by true = brought_same source (starts_unfit sorts) rests apart
    by false = brought_same source (starts_with (greatest_start rests)) rests apart

-- ---- the rests of the sources

from_other : (source other : Source) (posts : List Stamped) → same_source other source ≡ false → sent_from source (map (λ post. (other, post)) posts) ≡ []
from_other source other [] e = refl
from_other source other (post ∷ posts) e = ap (λ (b : Bool). cons_option (if b then Some post else None) (sent_from source (map (λ p. (other, p)) posts))) e ∙ from_other source other posts e

from_same : (source other : Source) (posts : List Stamped) → same_source other source ≡ true → sent_from source (map (λ post. (other, post)) posts) ≡ posts
from_same source other [] e = refl
from_same source other (post ∷ posts) e = ap (λ (b : Bool). cons_option (if b then Some post else None) (sent_from source (map (λ p. (other, p)) posts))) e ∙ ap (λ (ps : List Stamped). post ∷ ps) (from_same source other posts e)

module _ (posts : Source → List Stamped) (entries : List Entry) (source : Source) where
  abbrev pub rest : List Stamped
  rest = drop (length (taken_from source entries)) (posts source)

  rest_other : (other : Source) → same_source other source ≡ false → sent_from source (rest_of posts entries other) ≡ []
  rest_other other e = from_other source other (drop (length (taken_from other entries)) (posts other)) e

  rest_same : (other : Source) → same_source other source ≡ true → sent_from source (rest_of posts entries other) ≡ rest
  rest_same other e =
      from_same source other (drop (length (taken_from other entries)) (posts other)) e ∙ ap (λ (s : Source). drop (length (taken_from s entries)) (posts s)) (same_source_is other source e)

  pub none_left : (xs : List Source) → NoneOf source xs → all_from source (map (rest_of posts entries) xs) ≡ []
  none_left [] none = refl
  none_left (x ∷ xs) none = from_more source (rest_of posts entries x) (map (rest_of posts entries) xs) ∙ (λ i. rest_other x none.0 i ++ none_left xs none.1 i)

  pub none_apart : (xs : List Source) → NoneOf source xs → Apart source (map (rest_of posts entries) xs)
  none_apart [] none = tt
  none_apart (x ∷ xs) none = (inl (rest_other x none.0), none_apart xs none.1)

  pub one_left_over : (xs : List Source) → OneOf source xs → all_from source (map (rest_of posts entries) xs) ≡ rest
  one_left_over [] one = absurd one
  one_left_over (x ∷ xs) (inl h) = from_more source (rest_of posts entries x) (map (rest_of posts entries) xs) ∙ (λ i. rest_same x h.0 i ++ none_left xs h.1 i) ∙ append-nil rest
  one_left_over (x ∷ xs) (inr h) = from_more source (rest_of posts entries x) (map (rest_of posts entries) xs) ∙ (λ i. rest_other x h.0 i ++ one_left_over xs h.1 i)

  pub one_apart : (xs : List Source) → OneOf source xs → Apart source (map (rest_of posts entries) xs)
  one_apart [] one = absurd one
  one_apart (x ∷ xs) (inl h) = (inr (none_left xs h.1), none_apart xs h.1)
  one_apart (x ∷ xs) (inr h) = (inl (rest_other x h.0), one_apart xs h.1)
