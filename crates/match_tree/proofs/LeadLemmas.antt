-- What holds of the routes that lead on from a path.
use Rattle.std.proofs.Common.{◌≡◌, ◌∙◌, ℕ, zero, suc, ◌+◌, ◌<◌, List, [], ◌∷◌, map, length, get_or, drop, true, false, not, ◌&&◌, ◌||◌, cond, None, Some, refl, subst, arith}
use Rattle.std.specs.Prelude.{◌==◌}
use Rattle.std.proofs.lemmas.Bool.Decides.{nat_tests}
use Rattle.guard_eval.specs.Meaning.{Assignment}
use Rattle.guard_eval.proofs.ReadyLemmas.{all_left, all_right}
use Rattle.tree_rows.specs.Routes.{Route, Step, Branch, step, filled, with_number, node_routes, row_routes, rows_routes, lacks}
use Rattle.row_screens.specs.Offers.{Offered, is_free}
use Rattle.row_screens.specs.Below.{AreBelow, Climbs}
use Rattle.row_screens.specs.Offering.{CanOffer, LeadsOn, LeadOn}
use Rattle.match_tree.specs.Growth.{Lasts}
pub use Rattle.join_base.proofs.EachLemmas.{each_append as all_both}

-- ---- numbers before another

pub below_unset : (slots : Assignment) (p m n : ℕ) → is_free slots p ≡ true → AreBelow n (with_number slots p m) → AreBelow n slots × (m < n)
below_unset [] p m n free h = absurd cc
below_unset (None ∷ slots) zero m n free h = (h.1, h.0)
below_unset (Some k ∷ slots) zero m n free h = absurd cc
below_unset (None ∷ slots) (suc p) m n free h = below_unset slots p m n free h
below_unset (Some k ∷ slots) (suc p) m n free h = let r = below_unset slots p m n free h.1 in ((h.0, r.0), r.1)

pub below_start : (slots : Assignment) (route : Route) (n : ℕ) → Climbs slots route → AreBelow n (filled slots route) → AreBelow n slots
below_start slots [] n climbs h = h
below_start slots (s ∷ route) n climbs h = (below_unset slots s.pattern s.number n climbs.0 (below_start (with_number slots s.pattern s.number) route n climbs.2 h)).0

pub not_it : (m n : ℕ) → m < n → not ((m == n) || false) ≡ true
not_it m n l = let e : (m == n) ≡ false = grind (arith, nat_tests) in λ i. not (e i || false)

-- a route whose numbers are before another lacks that one
pub lacks_later : (slots : Assignment) (route : Route) (n : ℕ) → Climbs slots route → AreBelow n (filled slots route) → lacks (n ∷ []) route ≡ true
lacks_later slots [] n climbs h = refl
lacks_later slots (s ∷ route) n climbs h =
    let less = (below_unset slots s.pattern s.number n climbs.0 (below_start (with_number slots s.pattern s.number) route n climbs.2 h)).1 in
    (λ i. not_it s.number n less i && lacks (n ∷ []) route) ∙ lacks_later (with_number slots s.pattern s.number) route n climbs.2 h

module _ (o : Offered) (slots : Assignment) where
  -- the offered number is in none of the routes
  pub lead_lasts : (routes : List Route) → LeadOn o slots routes → Lasts o.number routes routes
  lead_lasts [] h = refl
  lead_lasts (r ∷ routes) h =
      let here = lacks_later slots r o.number h.0.climbs h.0.can.below in
      (λ i. cond (here i) (r ∷ lead_lasts routes h.1 i) (lead_lasts routes h.1 i))

  pub lead_node : (q : ℕ) (nodes : List Branch) (i : ℕ) (d : Branch) → i < length nodes → LeadOn o slots (row_routes q nodes) → LeadOn o slots (node_routes q (get_or nodes i d))
  lead_node q [] i d within h = absurd (omega arith)
  lead_node q (node ∷ nodes) zero d within h = all_left (LeadsOn o slots) (node_routes q node) (row_routes q nodes) h
  lead_node q (node ∷ nodes) (suc i) d within h = lead_node q nodes i d (omega arith) (all_right (LeadsOn o slots) (node_routes q node) (row_routes q nodes) h)

  pub lead_drop : (q : ℕ) (nodes : List Branch) (i : ℕ) → LeadOn o slots (row_routes q nodes) → LeadOn o slots (row_routes q (drop i nodes))
  lead_drop q nodes zero h = h
  lead_drop q [] (suc i) h = h
  lead_drop q (node ∷ nodes) (suc i) h = lead_drop q nodes i (all_right (LeadsOn o slots) (node_routes q node) (row_routes q nodes) h)

  pub lead_row : (p : ℕ) (rows : List (List Branch)) (i : ℕ) (d : List Branch) → i < length rows → LeadOn o slots (rows_routes p rows) → LeadOn o slots (row_routes (p + i) (get_or rows i d))
  lead_row p [] i d within h = absurd (omega arith)
  lead_row p (row ∷ rows) zero d within h =
      let same : p ≡ p + 0 = omega arith in
      let P : ℕ → Type 0 = λ k. LeadOn o slots (row_routes k row) in
      subst P same (all_left (LeadsOn o slots) (row_routes p row) (rows_routes (p + 1) rows) h)
  lead_row p (row ∷ rows) (suc i) d within h =
      let same : p + 1 + i ≡ p + suc i = omega arith in
      let P : ℕ → Type 0 = λ k. LeadOn o slots (row_routes k (get_or rows i d)) in
      subst P same (lead_row (p + 1) rows i d (omega arith) (all_right (LeadsOn o slots) (row_routes p row) (rows_routes (p + 1) rows) h))

  pub lead_rows_drop : (p : ℕ) (rows : List (List Branch)) (i : ℕ) → LeadOn o slots (rows_routes p rows) → LeadOn o slots (rows_routes (p + i) (drop i rows))
  lead_rows_drop p rows zero h =
      let same : p ≡ p + 0 = omega arith in
      let P : ℕ → Type 0 = λ k. LeadOn o slots (rows_routes k rows) in
      subst P same h
  lead_rows_drop p [] (suc i) h = h
  lead_rows_drop p (row ∷ rows) (suc i) h =
      let same : p + 1 + i ≡ p + suc i = omega arith in
      let P : ℕ → Type 0 = λ k. LeadOn o slots (rows_routes k (drop i rows)) in
      subst P same (lead_rows_drop (p + 1) rows i (all_right (LeadsOn o slots) (row_routes p row) (rows_routes (p + 1) rows) h))

  behind : (s : Step) (routes : List Route) → LeadOn o slots (map (λ r. s ∷ r) routes) → LeadOn o (with_number slots s.pattern s.number) routes
  behind s [] h = h
  behind s (r ∷ routes) h = (record { climbs = h.0.climbs.2; can = h.0.can }, behind s routes h.1)

  -- what leads on to a node
  pub record Leads (q : ℕ) (node : Branch) : Type 0 where
    pub free : is_free slots q ≡ true
    pub below : AreBelow node.number slots
    pub less : node.number < o.number
    pub can : CanOffer o (with_number slots q node.number)
    pub lead : LeadOn o (with_number slots q node.number) node.routes

  pub lead_below : (q : ℕ) (node : Branch) → LeadOn o slots (node_routes q node) → Leads q node
  lead_below q node h = record {
    free = h.0.climbs.0;
    below = h.0.climbs.1;
    less = (below_unset slots q node.number o.number h.0.climbs.0 h.0.can.below).1;
    can = h.0.can;
    lead = behind (step q node.number) node.routes h.1;
  }
