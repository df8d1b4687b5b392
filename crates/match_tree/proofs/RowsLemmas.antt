-- A walk over rows, of which those so far were visited and the others are as they were.
use Rattle.std.proofs.Common.{◌≡◌, inl, inr, ◌∙◌, ℕ, zero, suc, ◌+◌, ◌<◌, ◌≤◌, List, [], ◌∷◌, ◌++◌, map, length, take, drop, get_or, set, replicate, Bool, true, false, not, cond, ◌&&◌, ◌||◌, Option, None, Some, refl, sym, ap, subst, arith, length-append, append_assoc}
use Rattle.std.specs.Prelude.{◌==◌, if◌then◌else◌}
use Rattle.std.specs.Ordering.{is_le}
use Rattle.pattern_core.specs.Key.{key_cmp}
use Rattle.std.specs.List.{filter, AllByRecursion}
use Rattle.std.proofs.lemmas.Bool.Decides.{nat_tests}
use Rattle.std.proofs.lemmas.List.{take_more_set, append-nil, map-append}
use Rattle.std.proofs.lemmas.List.Elements.{filter-append}
use Rattle.guard_eval.specs.Meaning.{Assignment}
use Rattle.pattern_core.specs.declared.candidate.Candidate.{Candidate}
use Rattle.pattern_core.specs.Members.{IsIn}
use Rattle.pattern_core.specs.Choice.{least, lesser_of}
use Rattle.pattern_core.proofs.BestLemmas.{least-append}
use Rattle.pattern_core.proofs.MembersLemmas.{IsIn-filter, IsIn-filter_from}
use Rattle.tree_rows.specs.Rows.{leaf}
use Rattle.tree_rows.specs.Routes.{Route, Branch, step, node_routes, row_routes, rows_routes, lacks}
use Rattle.join_base.specs.Taken.{contains_number}
use Rattle.std.proofs.Math.Bool.{or-true}
use Rattle.row_screens.specs.Offers.{Offered, places, may_take, leaves_one_free, matches_at, seen, new_matches, takers, growing}
use Rattle.row_screens.specs.Offering.{LeadsOn, LeadOn}
use Rattle.tree_rows.specs.Order.{Rise, IsOrderedNode, IsSoundRow, AreSound}
use Rattle.match_tree.specs.Growth.{Lasts, Grows}
use Rattle.match_tree.specs.Begins.{IsLess, AreLess, Begins}
use Rattle.match_tree.specs.Tries.{tries_behind}
use Rattle.match_tree.proofs.GrowLemmas.{lasts_both, grows_both}
use Rattle.match_tree.proofs.BeginLemmas.{begins_both, begins_nowhere, begins_step, begins_here}
use Rattle.match_tree.proofs.LeadLemmas.{all_both, lead_lasts, lead_rows_drop, lead_below}
use Rattle.match_tree.proofs.TriesLemmas.{tries_append}
use Rattle.match_tree.proofs.FirstLemmas.{matches_both}
use Rattle.tree_rows.proofs.ListLemmas.{row_append}
use Rattle.match_tree.proofs.WalkLemmas.{set_at_place, all_drop}
use Rattle.tree_rows.proofs.WalkLemmas.{left_more}
use Rattle.guard_eval.proofs.ReadyLemmas.{all_left, all_right}
use Rattle.tree_rows.proofs.RowsLemmas.{rows_append, front_count, rows_middle, before_routes, now_routes, before_all, before_on}

pub places_append : {X : Type 0} (p : ℕ) (xs ys : List X) → places p (xs ++ ys) ≡ places p xs ++ places (p + length xs) ys
places_append p [] ys = let e : p ≡ p + 0 = omega arith in ap (λ (k : ℕ). places k ys) e
places_append {X} p (x ∷ xs) ys =
    let e : p + 1 + length xs ≡ p + suc (length xs) = omega arith in
    ap (λ (ps : List ℕ). p ∷ ps) (places_append (p + 1) xs ys ∙ ap (λ (k : ℕ). places (p + 1) xs ++ places k ys) e)

pub rows_empty : (p k : ℕ) → rows_routes p (replicate k []) ≡ []
rows_empty p zero = refl
rows_empty p (suc k) = rows_empty (p + 1) k

pub sound_empty : (k : ℕ) → AreSound (replicate k [])
sound_empty zero = tt
sound_empty (suc k) = (record { rise = tt; ordered = tt }, sound_empty k)

-- further rows without nodes change nothing
pub rows_more : (rows grown : List (List Branch)) (k : ℕ) → grown ≡ rows ++ replicate k [] → rows_routes 0 grown ≡ rows_routes 0 rows
rows_more rows grown k e = ap (rows_routes 0) e ∙ rows_append 0 rows (replicate k []) ∙ ap (λ (rs : List Route). rows_routes 0 rows ++ rs) (rows_empty (0 + length rows) k) ∙ append-nil (rows_routes 0 rows)

pub sound_more : (rows grown : List (List Branch)) (k : ℕ) → grown ≡ rows ++ replicate k [] → AreSound rows → AreSound grown
sound_more rows grown k e h = subst AreSound (sym e) (all_both IsSoundRow rows (replicate k []) h (sound_empty k))

-- the lesser of two is none only where both are
pub lesser_none : (a b : Option Candidate) → lesser_of a b ≡ None → (a ≡ None) × (b ≡ None)
lesser_none None b e = (refl, e)
lesser_none (Some x) None e = absurd cc
lesser_none (Some x) (Some y) e = by (is_le (key_cmp x y)) e
  where
    by : (t : Bool) → (if t then Some x else Some y) ≡ None → (Some x ≡ None) × (Some y ≡ None)
    by true k = absurd cc
    by false k = absurd cc

-- ---- one row further

module _ (rows items : List (List Branch)) (i : ℕ) (row now d : List Branch) (within : i < length rows) (within' : i < length items) (is : row ≡ get_or rows i d) where
  pub now_all : drop i items ≡ drop i rows → rows_routes 0 (set items i now) ≡ rows_routes 0 (take i items) ++ (row_routes i now ++ rows_routes (i + 1) (drop (i + 1) rows))
  now_all left =
      ap (rows_routes 0) (set_at_place items i now within' ∙ ap (λ (xs : List (List Branch)). take i items ++ now ∷ xs) (left_more items rows i left))
      ∙ rows_middle i (take i items) now (drop (i + 1) rows) ((front_count rows items i row now d within within' is) items within')

  pub sound_on : AreSound (take i items) → IsSoundRow now → AreSound (take (i + 1) (set items i now))
  sound_on h k = subst AreSound (sym (take_more_set items i now within')) (all_both IsSoundRow (take i items) (now ∷ []) h (k, tt))

  pub sound_all : drop i items ≡ drop i rows → AreSound rows → AreSound (take i items) → IsSoundRow now → AreSound (set items i now)
  sound_all left whole h k =
      subst AreSound (sym (set_at_place items i now within' ∙ ap (λ (xs : List (List Branch)). take i items ++ now ∷ xs) (left_more items rows i left)))
      (all_both IsSoundRow (take i items) (now ∷ drop (i + 1) rows) h (k, all_drop IsSoundRow rows (i + 1) whole))

  pub lasts_on : (n : ℕ) → Lasts n (rows_routes 0 (take i rows)) (rows_routes 0 (take i items)) → Lasts n (row_routes i row) (row_routes i now) → Lasts n (rows_routes 0 (take (i + 1) rows)) (rows_routes 0 (take (i + 1) (set items i now)))
  lasts_on n h k = ap (filter (lacks (n ∷ []))) (now_routes rows items i row now d within within' is) ∙ lasts_both n (rows_routes 0 (take i rows)) (row_routes i row) (rows_routes 0 (take i items)) (row_routes i now) h k ∙ sym (before_routes rows items i row now d within within' is)

  pub lasts_all : (o : Offered) (slots : Assignment) → drop i items ≡ drop i rows → LeadOn o slots (rows_routes 0 rows) → Lasts o.number (rows_routes 0 (take i rows)) (rows_routes 0 (take i items)) → Lasts o.number (row_routes i row) (row_routes i now)
      → Lasts o.number (rows_routes 0 rows) (rows_routes 0 (set items i now))
  lasts_all o slots left lead h k =
      let rest : List Route = rows_routes (i + 1) (drop (i + 1) rows) in
      let place : 0 + (i + 1) ≡ i + 1 = omega arith in
      let At : ℕ → Type 0 = λ m. LeadOn o slots (rows_routes m (drop (i + 1) rows)) in
      let behind = lead_lasts o slots rest (subst At place (lead_rows_drop o slots 0 rows (i + 1) lead)) in
      ap (filter (lacks (o.number ∷ []))) (now_all left)
      ∙ lasts_both o.number (rows_routes 0 (take i rows)) (row_routes i row ++ rest) (rows_routes 0 (take i items)) (row_routes i now ++ rest) h (lasts_both o.number (row_routes i row) rest (row_routes i now) rest k behind)
      ∙ sym (before_all rows items i row now d within within' is)

  pub best_on : (o : Offered) (slots : Assignment) (best found : Option Candidate) → best ≡ least (new_matches o slots ([] ∷ seen o (rows_routes 0 (take i rows)))) → found ≡ least (new_matches o slots (seen o (row_routes i row)))
      → lesser_of best found ≡ least (new_matches o slots ([] ∷ seen o (rows_routes 0 (take (i + 1) rows))))
  best_on o slots best found h k =
      let here : List Candidate = matches_at o slots in
      let front : List Candidate = new_matches o slots (seen o (rows_routes 0 (take i rows))) in
      let more : List Candidate = new_matches o slots (seen o (row_routes i row)) in
      (λ j. lesser_of (h j) (k j))
      ∙ sym (least-append (here ++ front) more)
      ∙ ap least (append_assoc here front more)
      ∙ ap (λ (cs : List Candidate). least (here ++ cs)) (sym (matches_both o slots (rows_routes 0 (take i rows)) (row_routes i row)) ∙ ap (λ (rs : List Route). new_matches o slots (seen o rs)) (sym (before_routes rows items i row now d within within' is)))

  pub grows_on : (o : Offered) (slots : Assignment) → Grows o slots [] (rows_routes 0 (take i rows)) (rows_routes 0 (take i items)) → Grows o slots [] (row_routes i row) (row_routes i now)
      → Grows o slots [] (rows_routes 0 (take (i + 1) rows)) (rows_routes 0 (take (i + 1) (set items i now)))
  grows_on o slots h k =
      let both = grows_both o slots [] [] (rows_routes 0 (take i rows)) (row_routes i row) (rows_routes 0 (take i items)) (row_routes i now) h k in
      subst (λ (rs : List Route). Grows o slots [] rs (rows_routes 0 (take (i + 1) (set items i now)))) (sym (before_routes rows items i row now d within within' is))
      (subst (λ (rs : List Route). Grows o slots [] (rows_routes 0 (take i rows) ++ row_routes i row) rs) (sym (now_routes rows items i row now d within within' is)) both)

  pub begins_on : (n : ℕ) (begun : List ℕ) → Begins n (filter (contains_number begun) (places 0 (take i rows))) (rows_routes 0 (take i rows)) (rows_routes 0 (take i items)) → Begins n (filter (contains_number begun) (i ∷ [])) (row_routes i row) (row_routes i now)
      → Begins n (filter (contains_number begun) (places 0 (take (i + 1) rows))) (rows_routes 0 (take (i + 1) rows)) (rows_routes 0 (take (i + 1) (set items i now)))
  begins_on n begun h k =
      let at : 0 + length (take i rows) ≡ i = let e = (front_count rows items i row now d within within' is) rows within in omega arith in
      let here : filter (contains_number begun) (places 0 (take (i + 1) rows)) ≡ filter (contains_number begun) (places 0 (take i rows)) ++ filter (contains_number begun) (i ∷ []) =
      ap (λ (xs : List (List Branch)). filter (contains_number begun) (places 0 xs)) (before_on rows items i row now d within within' is)
      ∙ ap (filter (contains_number begun)) (places_append 0 (take i rows) (row ∷ []) ∙ ap (λ (m : ℕ). places 0 (take i rows) ++ m ∷ []) at)
      ∙ filter-append (contains_number begun) (places 0 (take i rows)) (i ∷ [])
      in
      let both = begins_both n (filter (contains_number begun) (places 0 (take i rows))) (filter (contains_number begun) (i ∷ [])) (rows_routes 0 (take i rows)) (row_routes i row) (rows_routes 0 (take i items)) (row_routes i now) h k in
      subst (λ (ps : List ℕ). Begins n ps (rows_routes 0 (take (i + 1) rows)) (rows_routes 0 (take (i + 1) (set items i now)))) (sym here)
      (subst (λ (rs : List Route). Begins n (filter (contains_number begun) (places 0 (take i rows)) ++ filter (contains_number begun) (i ∷ [])) rs (rows_routes 0 (take (i + 1) (set items i now)))) (sym (before_routes rows items i row now d within within' is))
      (subst (λ (rs : List Route). Begins n (filter (contains_number begun) (places 0 (take i rows)) ++ filter (contains_number begun) (i ∷ [])) (rows_routes 0 (take i rows) ++ row_routes i row) rs) (sym (now_routes rows items i row now d within within' is)) both))

  -- what has not the number is as before
  pub same_on : (n : ℕ) → filter (lacks (n ∷ [])) (rows_routes 0 (take i items)) ≡ filter (lacks (n ∷ [])) (rows_routes 0 (take i rows)) → filter (lacks (n ∷ [])) (row_routes i now) ≡ filter (lacks (n ∷ [])) (row_routes i row)
      → filter (lacks (n ∷ [])) (rows_routes 0 (take (i + 1) (set items i now))) ≡ filter (lacks (n ∷ [])) (rows_routes 0 (take (i + 1) rows))
  same_on n h k =
      ap (filter (lacks (n ∷ []))) (now_routes rows items i row now d within within' is)
      ∙ filter-append (lacks (n ∷ [])) (rows_routes 0 (take i items)) (row_routes i now)
      ∙ (λ j. h j ++ k j)
      ∙ sym (filter-append (lacks (n ∷ [])) (rows_routes 0 (take i rows)) (row_routes i row))
      ∙ ap (filter (lacks (n ∷ []))) (sym (before_routes rows items i row now d within within' is))

  pub less_on : (n : ℕ) → AreLess n (take i items) → IsLess n now → AreLess n (take (i + 1) (set items i now))
  less_on n h k = subst (AreLess n) (sym (take_more_set items i now within')) (all_both (IsLess n) (take i items) (now ∷ []) h (k, tt))

  pub tries_rows_on : (o : Offered) (slots : Assignment) → tries_behind o slots (rows_routes 0 (take (i + 1) rows)) ≡ tries_behind o slots (rows_routes 0 (take i rows)) + tries_behind o slots (row_routes i row)
  tries_rows_on o slots = ap (tries_behind o slots) (before_routes rows items i row now d within within' is) ∙ tries_append o slots (rows_routes 0 (take i rows)) (row_routes i row)

  pub tries_rows_most : (o : Offered) (slots : Assignment) → tries_behind o slots (rows_routes 0 (take i rows)) + tries_behind o slots (row_routes i row) ≤ tries_behind o slots (rows_routes 0 rows)
  tries_rows_most o slots =
      let whole = ap (tries_behind o slots) (before_all rows items i row now d within within' is) ∙ tries_append o slots (rows_routes 0 (take i rows)) (row_routes i row ++ rows_routes (i + 1) (drop (i + 1) rows)) in
      let rest = tries_append o slots (row_routes i row) (rows_routes (i + 1) (drop (i + 1) rows)) in
      omega arith

-- ---- a node for the number at the end of a row

rise_push : (ns : List ℕ) (n : ℕ) → Rise ns → AllByRecursion (λ m. m < n) ns → Rise (ns ++ n ∷ [])
rise_push [] n h k = (tt, tt)
rise_push (m ∷ ns) n h k = (all_both (λ x. m < x) ns (n ∷ []) h.0 (k.0, tt), rise_push ns n h.1 k.1)

pub numbers_below : (o : Offered) (slots : Assignment) (q : ℕ) (row : List Branch) → LeadOn o slots (row_routes q row) → IsLess o.number row
numbers_below o slots q [] h = tt
numbers_below o slots q (node ∷ row) h =
    ((lead_below o slots q node (all_left (LeadsOn o slots) (node_routes q node) (row_routes q row) h)).less, numbers_below o slots q row (all_right (LeadsOn o slots) (node_routes q node) (row_routes q row) h))

pub push_sound : (n : ℕ) (row : List Branch) → IsSoundRow row → IsLess n row → IsSoundRow (row ++ leaf n ∷ [])
push_sound n row h k = record {
  rise = subst Rise (sym (map-append (λ (node : Branch). node.number) row (leaf n ∷ []))) (rise_push (map (λ node. node.number) row) n h.rise k);
  ordered = all_both IsOrderedNode row (leaf n ∷ []) h.ordered ((tt, tt), tt);
}

pub push_begins : (n q : ℕ) (row : List Branch) → Begins n (q ∷ []) (row_routes q row) (row_routes q (row ++ leaf n ∷ []))
push_begins n q row =
    let both = begins_both n [] (q ∷ []) (row_routes q row) [] (row_routes q row) ((step q n ∷ []) ∷ []) (begins_nowhere n (row_routes q row)) (begins_step n q) in
    subst (λ (rs : List Route). Begins n (q ∷ []) rs (row_routes q (row ++ leaf n ∷ []))) (append-nil (row_routes q row))
    (subst (λ (rs : List Route). Begins n (q ∷ []) (row_routes q row ++ []) rs) (sym (row_append q row (leaf n ∷ []))) both)

pub push_same : (n q : ℕ) (row : List Branch) → filter (lacks (n ∷ [])) (row_routes q (row ++ leaf n ∷ [])) ≡ filter (lacks (n ∷ [])) (row_routes q row)
push_same n q row =
    let its : (n == n) ≡ true = grind (arith, nat_tests) in
    let none : filter (lacks (n ∷ [])) (row_routes q (leaf n ∷ [])) ≡ [] = λ i. cond (not (its i || false) && true) ((step q n ∷ []) ∷ []) [] in
    ap (filter (lacks (n ∷ []))) (row_append q row (leaf n ∷ []))
    ∙ filter-append (lacks (n ∷ [])) (row_routes q row) (row_routes q (leaf n ∷ []))
    ∙ ap (λ (rs : List Route). filter (lacks (n ∷ [])) (row_routes q row) ++ rs) none
    ∙ append-nil (filter (lacks (n ∷ [])) (row_routes q row))

pub push_count : (n q : ℕ) (row : List Branch) → length (row_routes q (row ++ leaf n ∷ [])) ≡ length (row_routes q row) + 1
push_count n q row = ap (λ (rs : List Route). length rs) (row_append q row (leaf n ∷ [])) ∙ length-append (row_routes q row) (row_routes q (leaf n ∷ []))

-- ---- where the number begins

pub one_of_in : (ps : List ℕ) (p : ℕ) → contains_number ps p ≡ true → IsIn p ps
one_of_in [] p h = absurd cc
one_of_in (x ∷ ps) p h = by (p == x) refl h (one_of_in ps p)
  where
    by : (b : Bool) → (p == x) ≡ b → (b || contains_number ps p) ≡ true → (contains_number ps p ≡ true → IsIn p ps) → IsIn p (x ∷ ps)
    by true e k later = inl (grind (arith, nat_tests))
    by false e k later = inr (later k)

in_one_of : (ps : List ℕ) (p : ℕ) → IsIn p ps → contains_number ps p ≡ true
in_one_of [] p m = absurd m
in_one_of (x ∷ ps) p (inl e) = let same : (p == x) ≡ true = grind (arith, nat_tests) in λ i. same i || contains_number ps p
in_one_of (x ∷ ps) p (inr m) = (λ i. (p == x) || in_one_of ps p m i) ∙ or-true (p == x)

in_places : {X : Type 0} (p k : ℕ) (xs : List X) → k ≤ p → p < k + length xs → IsIn p (places k xs)
in_places p k [] l h = absurd (omega arith)
in_places {X} p k (x ∷ xs) l h = by (k == p) refl (λ m. in_places p (k + 1) xs m (omega arith))
  where
    by : (b : Bool) → (k == p) ≡ b → (k + 1 ≤ p → IsIn p (places (k + 1) xs)) → IsIn p (k ∷ places (k + 1) xs)
    by true e later = inl (grind (arith, nat_tests))
    by false e later = inr (later (grind (arith, nat_tests)))

from_places : {X : Type 0} (p k : ℕ) (xs : List X) → IsIn p (places k xs) → p < k + length xs
from_places p k [] m = absurd m
from_places p k (x ∷ xs) (inl e) = omega arith
from_places p k (x ∷ xs) (inr m) = let l = from_places p (k + 1) xs m in omega arith

-- each of the patterns at which the number begins has a row
pub begins_in_rows : (o : Offered) (slots : Assignment) (rows : List (List Branch)) (before now : List Route) → length o.definition.patterns ≤ length rows
    → Begins o.number (filter (contains_number (growing o slots)) (places 0 rows)) before now → Begins o.number (growing o slots) before now
begins_in_rows o slots rows before now enough g =
    let begun : List ℕ = growing o slots in
    begins_here o.number (filter (contains_number begun) (places 0 rows)) begun before now
    (λ p m. one_of_in begun p (IsIn-filter_from (contains_number begun) p (places 0 rows) m).1)
    (λ p m.
    let in_takers = (IsIn-filter_from (leaves_one_free o slots) p (takers o slots) m).0 in
    let below = from_places p 0 o.definition.patterns (IsIn-filter_from (may_take o slots) p (places 0 o.definition.patterns) in_takers).0 in
    IsIn-filter (contains_number begun) p (places 0 rows) (in_one_of begun p m) (in_places p 0 rows (omega arith) (omega arith)))
    g

less_empty : (n k : ℕ) → AreLess n (replicate k [])
less_empty n zero = tt
less_empty n (suc k) = (tt, less_empty n k)

pub less_more : (n : ℕ) (rows grown : List (List Branch)) (k : ℕ) → grown ≡ rows ++ replicate k [] → AreLess n rows → AreLess n grown
less_more n rows grown k e h = subst (AreLess n) (sym e) (all_both (IsLess n) rows (replicate k []) h (less_empty n k))
