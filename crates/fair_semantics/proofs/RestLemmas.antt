-- The rests that an actor was given: whatever holds of each rest holds of them in their order.
use Rattle.std.proofs.Common.{◌≡◌, zero, suc, List, [], ◌∷◌, ◌++◌, map, Bool, true, false, refl, arith}
use Rattle.std.specs.Prelude.{if◌then◌else◌, Contains}
use Rattle.std.specs.List.{AllByRecursion, flat_map, list_any}
use Rattle.join_base.specs.declared.message.Sort.{Sort}
use Rattle.fair_semantics.specs.Fair.{Sent}
use Rattle.fair_semantics.specs.Linked.{behind_first, brought_first, greatest_start, rests_in_order, starts_unfit, starts_with}
use Rattle.fair_semantics.proofs.ListLemmas.{each_append}

module _ (W : List Sent → Type 0) where
  each_behind : (leads : List Sent → Bool) (rest : List Sent) (rests : List (List Sent)) → W rest → AllByRecursion W rests → AllByRecursion W (behind_first leads rest rests)
  each_behind leads rest [] h each = (h, tt)
  each_behind leads rest (first ∷ others) h each = by (leads first)
    where
      by : (b : Bool) → AllByRecursion W (if b then first ∷ rest ∷ others else rest ∷ first ∷ others)
      by true = (each.0, (h, each.1))
      by false = (h, each)

  each_brought : (leads : List Sent → Bool) (rests : List (List Sent)) → AllByRecursion W rests → AllByRecursion W (brought_first leads rests)
  each_brought leads [] each = tt
  each_brought leads (rest ∷ rests) each = by (leads rest) (each_behind leads rest (brought_first leads rests) each.0 (each_brought leads rests each.1))
    where
      by : (b : Bool) → AllByRecursion W (behind_first leads rest (brought_first leads rests)) → AllByRecursion W (if b then rest ∷ rests else behind_first leads rest (brought_first leads rests))
      by true later = each
      by false later = later

  pub each_in_order : (sorts : List (List Sort)) (rests : List (List Sent)) → AllByRecursion W rests → AllByRecursion W (rests_in_order sorts rests)
  each_in_order sorts rests each = by (list_any (starts_unfit sorts) rests)
    where
      by : (b : Bool) → AllByRecursion W (if b then brought_first (starts_unfit sorts) rests else brought_first (starts_with (greatest_start rests)) rests)
      by true = each_brought (starts_unfit sorts) rests each
      by false = each_brought (starts_with (greatest_start rests)) rests each

pub none_in : (rests : List (List Sent)) → AllByRecursion (λ (rest : List Sent). rest ≡ []) rests → flat_map (λ (sent : List Sent). sent) rests ≡ []
none_in [] each = refl
none_in (rest ∷ rests) each = λ i. each.0 i ++ none_in rests each.1 i

pub each_in : (P : Sent → Type 0) (rests : List (List Sent)) → AllByRecursion (AllByRecursion P) rests → AllByRecursion P (flat_map (λ (sent : List Sent). sent) rests)
each_in P [] each = tt
each_in P (rest ∷ rests) each = each_append P rest (flat_map (λ (sent : List Sent). sent) rests) each.0 (each_in P rests each.1)

pub each_of_all : {X : Type 0} (W : List Sent → Type 0) (f : X → List Sent) (xs : List X) → ((x : X) → Contains xs x → W (f x)) → AllByRecursion W (map f xs)
each_of_all W f [] h = tt
each_of_all W f (x ∷ xs) h = (h x (zero, omega arith, refl), each_of_all W f xs (λ y c. h y (suc c.0, omega (arith, c.1), c.2)))
