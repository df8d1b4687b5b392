-- Routes that leave a pattern free, node by node and row by row.
use Rattle.std.proofs.Common.{◌≡◌, ◌∙◌, ℕ, zero, suc, ◌+◌, ◌<◌, List, [], ◌∷◌, ◌++◌, map, length, take, drop, get_or, set, Bool, true, false, not, refl, sym, ap, subst, arith}
use Rattle.std.proofs.lemmas.List.{take_more_set}
use Rattle.guard_eval.specs.Meaning.{Assignment}
use Rattle.guard_eval.proofs.ExtendLemmas.{both_true}
use Rattle.guard_eval.proofs.ReadyLemmas.{all_left, all_right}
use Rattle.pattern_core.specs.Matches.{is_full}
use Rattle.pattern_core.proofs.MembersLemmas.{IsIn-filter_from}
use Rattle.tree_rows.specs.Routes.{Route, Step, Branch, step, with_number, node_routes, row_routes}
use Rattle.join_base.specs.Taken.{contains_number}
use Rattle.row_screens.specs.Offers.{Offered, places, is_free, may_take, takers, leaves_one_free, growing}
use Rattle.row_screens.specs.Below.{AreBelow, IsOpen, AreOpen, Climbs}
use Rattle.row_screens.specs.Offering.{CanOffer}
use Rattle.match_tree.proofs.LeadLemmas.{all_both, below_unset}
use Rattle.tree_rows.proofs.ListLemmas.{row_append}
use Rattle.match_tree.proofs.WalkLemmas.{set_at_place}
use Rattle.tree_rows.proofs.WalkLemmas.{left_more}
use Rattle.tree_rows.specs.Rows.{leaf}
use Rattle.match_tree.proofs.RowsLemmas.{one_of_in}
use Rattle.std.specs.List.{AllByRecursion}
use Rattle.tree_rows.specs.Order.{Rise}
use Rattle.tree_rows.specs.Pruned.{AreRising}

module _ (slots : Assignment) where
  open_behind : (s : Step) (routes : List Route) → AreOpen slots (map (λ r. s ∷ r) routes) → AreOpen (with_number slots s.pattern s.number) routes
  open_behind s [] h = tt
  open_behind s (r ∷ routes) h = (record { climbs = h.0.climbs.2; free = h.0.free }, open_behind s routes h.1)

  open_before : (s : Step) (routes : List Route) → is_free slots s.pattern ≡ true → AreBelow s.number slots → AreOpen (with_number slots s.pattern s.number) routes → AreOpen slots (map (λ r. s ∷ r) routes)
  open_before s [] free below h = tt
  open_before s (r ∷ routes) free below h = (record { climbs = (free, below, h.0.climbs); free = h.0.free }, open_before s routes free below h.1)

  -- what a node's routes leave free behind it
  pub open_below : (q : ℕ) (node : Branch) → AreOpen slots (node_routes q node) → AreOpen (with_number slots q node.number) node.routes
  open_below q node h = open_behind (step q node.number) node.routes h.1

  -- a node of the same number whose routes leave a pattern free
  pub open_now : (q : ℕ) (node now : Branch) → now.number ≡ node.number → AreOpen slots (node_routes q node) → AreOpen (with_number slots q node.number) now.routes → AreOpen slots (node_routes q now)
  open_now q node now same h k =
      let P : ℕ → Type 0 = λ m. AreOpen slots ((step q m ∷ []) ∷ map (λ r. step q m ∷ r) now.routes) in
      subst P (sym same) (h.0, open_before (step q node.number) now.routes h.0.climbs.0 h.0.climbs.1 k)

  pub open_both : (q : ℕ) (xs ys : List Branch) → AreOpen slots (row_routes q xs) → AreOpen slots (row_routes q ys) → AreOpen slots (row_routes q (xs ++ ys))
  open_both q xs ys h k = subst (AreOpen slots) (sym (row_append q xs ys)) (all_both (IsOpen slots) (row_routes q xs) (row_routes q ys) h k)

  pub open_one : (q : ℕ) (node : Branch) → AreOpen slots (node_routes q node) → AreOpen slots (row_routes q (node ∷ []))
  open_one q node h = all_both (IsOpen slots) (node_routes q node) [] h tt

  pub open_node : (q : ℕ) (nodes : List Branch) (i : ℕ) (d : Branch) → i < length nodes → AreOpen slots (row_routes q nodes) → AreOpen slots (node_routes q (get_or nodes i d))
  open_node q [] i d within h = absurd (omega arith)
  open_node q (node ∷ nodes) zero d within h = all_left (IsOpen slots) (node_routes q node) (row_routes q nodes) h
  open_node q (node ∷ nodes) (suc i) d within h = open_node q nodes i d (omega arith) (all_right (IsOpen slots) (node_routes q node) (row_routes q nodes) h)

  pub open_drop : (q : ℕ) (nodes : List Branch) (i : ℕ) → AreOpen slots (row_routes q nodes) → AreOpen slots (row_routes q (drop i nodes))
  open_drop q nodes zero h = h
  open_drop q [] (suc i) h = h
  open_drop q (node ∷ nodes) (suc i) h = open_drop q nodes i (all_right (IsOpen slots) (node_routes q node) (row_routes q nodes) h)

  -- one node further
  pub open_on : (q : ℕ) (items : List Branch) (i : ℕ) (now : Branch) → i < length items → AreOpen slots (row_routes q (take i items)) → AreOpen slots (node_routes q now) → AreOpen slots (row_routes q (take (i + 1) (set items i now)))
  open_on q items i now within h k = subst (λ (xs : List Branch). AreOpen slots (row_routes q xs)) (sym (take_more_set items i now within)) (open_both q (take i items) (now ∷ []) h (open_one q now k))

  pub open_all : (q : ℕ) (nodes items : List Branch) (i : ℕ) (now : Branch) → i < length items → drop i items ≡ drop i nodes → AreOpen slots (row_routes q nodes) → AreOpen slots (row_routes q (take i items)) → AreOpen slots (node_routes q now)
      → AreOpen slots (row_routes q (set items i now))
  open_all q nodes items i now within left whole h k =
      let rest : List Branch = drop (i + 1) nodes in
      subst (λ (xs : List Branch). AreOpen slots (row_routes q xs)) (sym (set_at_place items i now within ∙ ap (λ (xs : List Branch). take i items ++ now ∷ xs) (left_more items nodes i left)))
      (open_both q (take i items) (now ∷ rest) h (all_both (IsOpen slots) (node_routes q now) (row_routes q rest) k (open_drop q nodes (i + 1) whole)))

-- a step to the number at a pattern where it begins
pub open_step : (o : Offered) (slots : Assignment) (q : ℕ) → CanOffer o slots → contains_number (growing o slots) q ≡ true → AreOpen slots ((step q o.number ∷ []) ∷ [])
open_step o slots q can h =
    let grows = IsIn-filter_from (leaves_one_free o slots) q (takers o slots) (one_of_in (growing o slots) q h) in
    let takes = (IsIn-filter_from (may_take o slots) q (places 0 o.definition.patterns) grows.0).1 in
    let free = (both_true (is_free slots q) _ takes).0 in
    (record { climbs = (free, can.below, tt); free = not_true (is_full (with_number slots q o.number)) grows.1 }, tt)
  where
    not_true : (b : Bool) → not b ≡ true → b ≡ false
    not_true true e = sym e
    not_true false e = refl

pub open_push : (o : Offered) (slots : Assignment) (q : ℕ) (row : List Branch) → CanOffer o slots → contains_number (growing o slots) q ≡ true → AreOpen slots (row_routes q row) → AreOpen slots (row_routes q (row ++ leaf o.number ∷ []))
open_push o slots q row can h k = open_both slots q row (leaf o.number ∷ []) k (open_step o slots q can h)

-- ---- routes whose numbers rise

-- a route that climbs rises, also from a number that all above its path are greater than
climbs_from : (slots : Assignment) (n : ℕ) (route : Route) → ((m : ℕ) → AreBelow m slots → n < m) → Climbs slots route → Rise (n ∷ map (λ s. s.number) route)
climbs_from slots n [] above climbs = (tt, tt)
climbs_from slots n (s ∷ route) above climbs =
    let first = above s.number climbs.1 in
    let behind = climbs_from (with_number slots s.pattern s.number) s.number route (λ m b. (below_unset slots s.pattern s.number m climbs.0 b).1) climbs.2 in
    ((first, later s.number (map (λ x. x.number) route) first behind.0), behind)
  where
    later : (k : ℕ) (ks : List ℕ) → n < k → AllByRecursion (λ m. k < m) ks → AllByRecursion (λ m. n < m) ks
    later k [] l h = tt
    later k (x ∷ ks) l h = (let more = h.0 in omega arith, later k ks l h.1)

pub climbs_rise : (slots : Assignment) (route : Route) → Climbs slots route → Rise (map (λ s. s.number) route)
climbs_rise slots [] climbs = tt
climbs_rise slots (s ∷ route) climbs = climbs_from (with_number slots s.pattern s.number) s.number route (λ m b. (below_unset slots s.pattern s.number m climbs.0 b).1) climbs.2

pub rising_open : (slots : Assignment) (routes : List Route) → AreOpen slots routes → AreRising routes
rising_open slots [] h = tt
rising_open slots (r ∷ routes) h = (climbs_rise slots r h.0.climbs, rising_open slots routes h.1)
