-- The arrival whose firing made a post, and the origins of all arrivals.
use Rattle.std.proofs.Common.{◌≡◌, ◌∙◌, ℕ, zero, suc, ◌+◌, ◌-◌, ◌<◌, ◌≤◌, List, [], ◌∷◌, ◌++◌, length, drop, get_or, replicate, Option, None, Some, slice_get, refl, sym, ap, arith}
use Rattle.std.proofs.lemmas.List.{drop_all, drop_more}
use Rattle.feed_causes.specs.Causes.{Arrived, origin_at, origin_by, posters, posts_by}
use Rattle.feed_causes.specs.Search.{origin_in, origins_from}

-- ---- a place that stands several times in front

pub front_get : (n place : ℕ) (rest : List ℕ) (k : ℕ) → k < n → slice_get (replicate n place ++ rest) k ≡ Some place
front_get zero place rest k less = absurd (omega (arith, less))
front_get (suc n) place rest zero less = refl
front_get (suc n) place rest (suc k) less = front_get n place rest k (omega (arith, less))

pub behind_get : (n place : ℕ) (rest : List ℕ) (k : ℕ) → n ≤ k → slice_get (replicate n place ++ rest) k ≡ slice_get rest (k - n)
behind_get zero place rest k few = let same : k ≡ k - 0 = omega arith in ap (slice_get rest) same
behind_get (suc n) place rest zero few = absurd (omega (arith, few))
behind_get (suc n) place rest (suc k) few =
    let same : k - n ≡ suc k - suc n = omega arith in
    behind_get n place rest k (omega (arith, few)) ∙ ap (slice_get rest) same

-- ---- the post behind so many

module _ (from to : ℕ) (all : List Arrived) (place left count : ℕ) (arrival : Arrived) (found : Option ℕ) (within : place < length all) (is : arrival ≡ get_or all place arrival) (counted : count ≡ posts_by from to arrival)
    (sought : slice_get (posters from to place (drop place all)) left ≡ found) where
  here : slice_get (replicate count place ++ posters from to (place + 1) (drop (place + 1) all)) left ≡ found
  here =
      ap (λ (n : ℕ). slice_get (replicate n place ++ posters from to (place + 1) (drop (place + 1) all)) left) counted
      ∙ ap (λ (first : Arrived). slice_get (posters from to place (first ∷ drop (place + 1) all)) left) is
      ∙ ap (λ (rest : List Arrived). slice_get (posters from to place rest) left) (sym (drop_more all place arrival within))
      ∙ sought

  -- this arrival's firing made it
  pub poster_here : left < count → Some place ≡ found
  poster_here less = sym (front_get count place (posters from to (place + 1) (drop (place + 1) all)) left less) ∙ here

  -- a later one's did
  pub poster_later : count ≤ left → slice_get (posters from to (place + 1) (drop (place + 1) all)) (left - count) ≡ found
  poster_later few = sym (behind_get count place (posters from to (place + 1) (drop (place + 1) all)) left few) ∙ here

-- nobody made it
pub poster_none : (from to : ℕ) (all : List Arrived) (place left : ℕ) (found : Option ℕ) → length all ≤ place → slice_get (posters from to place (drop place all)) left ≡ found → None ≡ found
poster_none from to all place left found past sought =
    ap (λ (rest : List Arrived). slice_get (posters from to place rest) left) (sym (drop_all place all past)) ∙ sought

-- ---- the origins of all

origins_get : (all : List Arrived) (first : ℕ) (rest : List Arrived) (k place : ℕ) → place ≡ first + k → origin_in (slice_get (origins_from all first rest) k) ≡ origin_by all place (slice_get rest k)
origins_get all first [] k place at = refl
origins_get all first (arrival ∷ rest) zero place at =
    let same : first ≡ place = omega (arith, at) in
    ap (λ (p : ℕ). origin_by all p (Some arrival)) same
origins_get all first (arrival ∷ rest) (suc k) place at = origins_get all (first + 1) rest k place (omega (arith, at))

-- the origin that stands at a place is that of the arrival there
pub origin_is : (all : List Arrived) (origins : List (Option ℕ)) (place : ℕ) → origins ≡ origins_from all 0 all → origin_in (slice_get origins place) ≡ origin_at all place
origin_is all origins place are =
    let at : place ≡ 0 + place = omega arith in
    ap (λ (os : List (Option ℕ)). origin_in (slice_get os place)) are ∙ origins_get all 0 all place place at
