-- Which patterns may take a number, at a path and at a longer one.
use Rattle.std.proofs.Common.{◌≡◌, ◌∙◌, ℕ, List, [], ◌∷◌, Bool, true, false, not, ◌&&◌, cond, slice_index, refl, sym, ap}
use Rattle.std.specs.Prelude.{◌==◌}
use Rattle.std.specs.List.{filter}
use Rattle.guard_eval.specs.Meaning.{Assignment, recorded_message}
use Rattle.guard_eval.proofs.ExtendLemmas.{both_true}
use Rattle.pattern_core.specs.Matches.{is_of_kind, is_agreeable}
use Rattle.tree_rows.specs.Routes.{Route, with_number, filled}
use Rattle.row_screens.specs.Offers.{Offered, places, is_free, may_take, takers}
use Rattle.row_screens.specs.Below.{Climbs}
use Rattle.row_screens.proofs.SlotsLemmas.{free_further, agreeable_one}

-- ---- filters

pub and_of : (a b : Bool) → a ≡ true → b ≡ true → (a && b) ≡ true
and_of a b p q = (λ i. p i && b) ∙ q

-- a filter that lets through no more than the one before it
pub filter_within : {X : Type 0} (p q : X → Bool) → ((x : X) → p x ≡ true → q x ≡ true) → (xs : List X) → filter p (filter q xs) ≡ filter p xs
filter_within p q within [] = refl
filter_within {X} p q within (x ∷ xs) = by (q x) (p x) refl refl (filter_within p q within xs)
  where
    by : (b a : Bool) → q x ≡ b → p x ≡ a → filter p (filter q xs) ≡ filter p xs → filter p (cond b (x ∷ filter q xs) (filter q xs)) ≡ cond a (x ∷ filter p xs) (filter p xs)
    by true a eb ea later = λ i. cond (ea i) (x ∷ later i) (later i)
    by false true eb ea later = absurd (let h = within x ea in cc)
    by false false eb ea later = later

pub filter_none : {X : Type 0} (p : X → Bool) (xs : List X) → ((x : X) → p x ≡ false) → filter p xs ≡ []
filter_none p [] none = refl
filter_none {X} p (x ∷ xs) none = (λ i. cond (none x i) (x ∷ filter p xs) (filter p xs)) ∙ filter_none p xs none

module _ (o : Offered) where
  -- what a longer path lets take the number, the shorter one does
  pub takes_below : (slots : Assignment) (q m p : ℕ) → is_free slots q ≡ true → may_take o (with_number slots q m) p ≡ true → may_take o slots p ≡ true
  takes_below slots q m p free h =
      let kind : Bool = is_of_kind (recorded_message o.messages o.number) (slice_index o.definition.patterns p) in
      let parts = both_true (is_free (with_number slots q m) p) (kind && is_agreeable o.messages o.definition.conjuncts (with_number (with_number slots q m) p o.number)) h in
      let inner = both_true kind (is_agreeable o.messages o.definition.conjuncts (with_number (with_number slots q m) p o.number)) parts.1 in
      let was_free = (both_true (is_free slots p) (not (p == q)) (sym (free_further slots q m p) ∙ parts.0)).0 in
      and_of (is_free slots p) (kind && is_agreeable o.messages o.definition.conjuncts (with_number slots p o.number)) was_free
      (and_of kind (is_agreeable o.messages o.definition.conjuncts (with_number slots p o.number)) inner.0 (agreeable_one o.messages o.definition.conjuncts slots q m p o.number free inner.1))

  -- and it is another pattern
  pub takes_other : (slots : Assignment) (q m p : ℕ) → may_take o (with_number slots q m) p ≡ true → not (p == q) ≡ true
  takes_other slots q m p h =
      let kind : Bool = is_of_kind (recorded_message o.messages o.number) (slice_index o.definition.patterns p) in
      let parts = both_true (is_free (with_number slots q m) p) (kind && is_agreeable o.messages o.definition.conjuncts (with_number (with_number slots q m) p o.number)) h in
      (both_true (is_free slots p) (not (p == q)) (sym (free_further slots q m p) ∙ parts.0)).1

  -- the other takers of a path are all that a longer one can have
  pub takers_further : (slots : Assignment) (q m : ℕ) → is_free slots q ≡ true → filter (may_take o (with_number slots q m)) (filter (λ p. not (p == q)) (takers o slots)) ≡ takers o (with_number slots q m)
  takers_further slots q m free =
      filter_within (may_take o (with_number slots q m)) (λ p. not (p == q)) (λ p h. takes_other slots q m p h) (takers o slots)
      ∙ filter_within (may_take o (with_number slots q m)) (may_take o slots) (λ p h. takes_below slots q m p free h) (places 0 o.definition.patterns)

  -- where no pattern but this one may take the number, none may behind a number there
  pub no_takers_further : (slots : Assignment) (q m : ℕ) → is_free slots q ≡ true → filter (λ p. not (p == q)) (takers o slots) ≡ [] → takers o (with_number slots q m) ≡ []
  no_takers_further slots q m free none = sym (takers_further slots q m free) ∙ ap (filter (may_take o (with_number slots q m))) none

  -- where no pattern may take the number, none may behind any route
  pub no_takers_behind : (slots : Assignment) (route : Route) → Climbs slots route → takers o slots ≡ [] → takers o (filled slots route) ≡ []
  no_takers_behind slots [] climbs none = none
  no_takers_behind slots (s ∷ route) climbs none =
      no_takers_behind (with_number slots s.pattern s.number) route climbs.2 (no_takers_further slots s.pattern s.number climbs.0 (ap (filter (λ p. not (p == s.pattern))) none))
