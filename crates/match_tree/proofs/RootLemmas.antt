-- The empty path, at which each visit begins.
use Rattle.std.proofs.Common.{◌≡◌, ◌∙◌, ℕ, zero, suc, ◌+◌, ◌-◌, ◌<◌, ◌≤◌, List, [], ◌∷◌, ◌++◌, length, replicate, take, get_or, Bool, true, false, not, ◌&&◌, ◌||◌, cond, None, Some, slice_index, refl, sym, ap, subst, arith}
use Rattle.std.specs.List.{filter, list_any, AllByRecursion}
use Rattle.std.proofs.lemmas.List.{take_more, length-take-le}
use Rattle.std.proofs.lemmas.List.Elements.{filter-append}
use Rattle.guard_eval.specs.Meaning.{Assignment, recorded_message, is_slot_filled}
use Rattle.guard_eval.proofs.ExtendLemmas.{both_true}
use Rattle.pattern_core.specs.Matches.{is_of_kind, is_agreeable, is_full}
use Rattle.tree_rows.specs.Routes.{Route, with_number, filled}
use Rattle.row_screens.specs.Offers.{Offered, places, is_free, may_take, takers, leaves_one_free, growing}
use Rattle.row_screens.specs.Below.{Climbs, AreOpen}
use Rattle.row_screens.specs.Offering.{MayTry}
use Rattle.tree_rows.specs.Pruned.{AreShort}
use Rattle.match_tree.specs.Tries.{is_tried, tried, without_greatest}
use Rattle.row_screens.proofs.SlotsLemmas.{free_is_none}
use Rattle.row_screens.proofs.TakeLemmas.{filter_within}
use Rattle.match_tree.proofs.VisitLemmas.{all_filter}
use Rattle.match_tree.proofs.RowsLemmas.{places_append}

empty_free : (n p : ℕ) → p < n → is_free (replicate n None) p ≡ true
empty_free zero p l = absurd (omega arith)
empty_free (suc n) zero l = refl
empty_free (suc n) (suc p) l = empty_free n p (omega arith)

places_free : (n k : ℕ) (kinds : List ℕ) → k + length kinds ≤ n → AllByRecursion (λ p. is_free (replicate n None) p ≡ true) (places k kinds)
places_free n k [] h = tt
places_free n k (kind ∷ kinds) h = (empty_free n k (omega arith), places_free n (k + 1) kinds (omega arith))

all_try : (slots : Assignment) (ps : List ℕ) → AllByRecursion (λ p. is_free slots p ≡ true) ps → AllByRecursion (MayTry slots) ps
all_try slots [] h = tt
all_try slots (p ∷ ps) h = (free_is_none slots p h.0, all_try slots ps h.1)

-- each pattern of a kind may be tried at the empty path
try_empty : (f : ℕ → Bool) (kinds : List ℕ) → AllByRecursion (MayTry (replicate (length kinds) None)) (filter f (places 0 kinds))
try_empty f kinds = all_try (replicate (length kinds) None) (filter f (places 0 kinds)) (all_filter (λ p. is_free (replicate (length kinds) None) p ≡ true) f (places 0 kinds) (places_free (length kinds) 0 kinds (omega arith)))

none_filled : (n : ℕ) → list_any is_slot_filled (replicate n None) ≡ false
none_filled zero = refl
none_filled (suc n) = none_filled n

filter_same : {X : Type 0} (p q : X → Bool) (xs : List X) → AllByRecursion (λ x. p x ≡ q x) xs → filter p xs ≡ filter q xs
filter_same p q [] h = refl
filter_same p q (x ∷ xs) h = λ i. cond (h.0 i) (x ∷ filter_same p q xs h.1 i) (filter_same p q xs h.1 i)

and_true : (b : Bool) → (b && true) ≡ b
and_true true = refl
and_true false = refl

module _ (o : Offered) where
  abbrev pub of_kind : ℕ → Bool
  of_kind p = is_of_kind (recorded_message o.messages o.number) (slice_index o.definition.patterns p)

  abbrev empty : Assignment
  empty = replicate (length o.definition.patterns) None

  takers_empty : filter (may_take o empty) (filter of_kind (places 0 o.definition.patterns)) ≡ takers o empty
  takers_empty = filter_within (may_take o empty) of_kind (λ p h. (both_true (of_kind p) _ (both_true (is_free empty p) _ h).1).0) (places 0 o.definition.patterns)

  tried_one : (ps : List ℕ) → AllByRecursion (λ p. is_free empty p ≡ true) ps → AllByRecursion (λ p. is_tried o empty p ≡ of_kind p) ps
  tried_one [] h = tt
  tried_one (p ∷ ps) h =
      ((λ i. h.0 i && (of_kind p && (not (none_filled (length o.definition.patterns) i) || is_agreeable o.messages o.definition.conjuncts (with_number (without_greatest empty) p o.number)))) ∙ and_true (of_kind p), tried_one ps h.1)

  pub tried_empty : filter of_kind (places 0 o.definition.patterns) ≡ tried o empty
  tried_empty = sym (filter_same (is_tried o empty) of_kind (places 0 o.definition.patterns) (tried_one (places 0 o.definition.patterns) (places_free (length o.definition.patterns) 0 o.definition.patterns (omega arith))))

-- ---- the patterns of the number's kind at the empty path

module _ (o : Offered) (slots : Assignment) (wanted : List ℕ) (is : slots ≡ empty o) (wanted_is : wanted ≡ filter (of_kind o) (places 0 o.definition.patterns)) where
  pub root_free : AllByRecursion (MayTry slots) wanted
  root_free = subst (λ (s : Assignment). AllByRecursion (MayTry s) wanted) (sym is) (subst (λ (ps : List ℕ). AllByRecursion (MayTry (empty o)) ps) (sym wanted_is) (try_empty (of_kind o) o.definition.patterns))

  pub root_takers : filter (may_take o slots) wanted ≡ takers o slots
  root_takers = (λ i. filter (may_take o (is i)) (wanted_is i)) ∙ takers_empty o ∙ ap (takers o) (sym is)

-- ---- a definition with one pattern

one_full : (o : Offered) (n : ℕ) → n ≡ 1 → leaves_one_free o (replicate n None) 0 ≡ false
one_full o zero one = absurd (omega arith)
one_full o (suc zero) one = refl
one_full o (suc (suc n)) one = absurd (omega arith)

none_grows : (leaves may : ℕ → Bool) (kinds : List ℕ) → length kinds ≡ 1 → leaves 0 ≡ false → filter leaves (filter may (places 0 kinds)) ≡ []
none_grows leaves may [] one full = refl
none_grows leaves may (kind ∷ []) one full = by (may 0)
  where
    by : (b : Bool) → filter leaves (cond b (0 ∷ []) []) ≡ []
    by true = λ i. cond (full i) (0 ∷ []) []
    by false = refl
none_grows leaves may (kind ∷ other ∷ kinds) one full = absurd (omega arith)

-- no path grows
pub alone_grows : (o : Offered) → length o.definition.patterns ≡ 1 → growing o (empty o) ≡ []
alone_grows o one = none_grows (leaves_one_free o (empty o)) (may_take o (empty o)) o.definition.patterns one (one_full o (length o.definition.patterns) one)

-- ---- the first patterns of a kind, and one more

pub kinds_more : (f : ℕ → Bool) (kinds : List ℕ) (i : ℕ) → i < length kinds → filter f (places 0 (take (i + 1) kinds)) ≡ filter f (places 0 (take i kinds)) ++ cond (f i) (i ∷ []) []
kinds_more f kinds i within =
    let at : 0 + length (take i kinds) ≡ i = let e = length-take-le i kinds (omega arith) in omega arith in
    ap (λ (ks : List ℕ). filter f (places 0 ks)) (take_more kinds i 0 within)
    ∙ ap (filter f) (places_append 0 (take i kinds) (get_or kinds i 0 ∷ []) ∙ ap (λ (m : ℕ). places 0 (take i kinds) ++ m ∷ []) at)
    ∙ filter-append f (places 0 (take i kinds)) (i ∷ [])

-- ---- a route that leaves a pattern free is short

abbrev free_count : Assignment → ℕ
free_count [] = 0
free_count (None ∷ slots) = suc (free_count slots)
free_count (Some n ∷ slots) = free_count slots

count_further : (slots : Assignment) (p n : ℕ) → is_free slots p ≡ true → suc (free_count (with_number slots p n)) ≡ free_count slots
count_further [] p n h = absurd cc
count_further (None ∷ slots) zero n h = refl
count_further (Some k ∷ slots) zero n h = absurd cc
count_further (None ∷ slots) (suc p) n h = ap suc (count_further slots p n h)
count_further (Some k ∷ slots) (suc p) n h = count_further slots p n h

count_open : (slots : Assignment) → is_full slots ≡ false → 1 ≤ free_count slots
count_open [] h = absurd cc
count_open (None ∷ slots) h = omega arith
count_open (Some n ∷ slots) h = count_open slots h

count_route : (slots : Assignment) (route : Route) → Climbs slots route → free_count (filled slots route) + length route ≡ free_count slots
count_route slots [] h = let e : free_count slots + 0 ≡ free_count slots = omega arith in e
count_route slots (s ∷ route) h =
    let later = count_route (with_number slots s.pattern s.number) route h.2 in
    let one = count_further slots s.pattern s.number h.0 in
    omega arith

count_empty : (n : ℕ) → free_count (replicate n None) ≡ n
count_empty zero = refl
count_empty (suc n) = ap suc (count_empty n)

pub open_short : (n : ℕ) (routes : List Route) → AreOpen (replicate n None) routes → AreShort (n - 1) routes
open_short n [] h = tt
open_short n (r ∷ routes) h =
    let whole = count_route (replicate n None) r h.0.climbs in
    let left = count_open (filled (replicate n None) r) h.0.free in
    let all = count_empty n in
    (omega arith, open_short n routes h.1)
