-- Routes that take a new number only where some pattern may take it.
use Rattle.std.proofs.Common.{◌≡◌, ◌∙◌, inl, inr, ◌⊎◌, ℕ, zero, suc, ◌<◌, List, [], ◌∷◌, map, length, set, Bool, true, false, cond, None, Option, refl, sym, ap, subst, arith}
use Rattle.std.specs.List.{filter, AllByRecursion}
use Rattle.guard_eval.specs.Meaning.{Assignment}
use Rattle.guard_eval.proofs.ReadyLemmas.{all_left, all_right}
use Rattle.pattern_core.specs.declared.candidate.Candidate.{Candidate}
use Rattle.pattern_core.specs.Choice.{least}
use Rattle.pattern_core.specs.Members.{IsIn}
use Rattle.tree_rows.specs.Routes.{Route, Branch, step, with_number, node_routes, row_routes, lacks}
use Rattle.row_screens.specs.Below.{AreOpen}
use Rattle.row_screens.specs.Offers.{Offered, takers, growing, leaves_one_free, seen, new_routes, new_matches}
use Rattle.row_screens.specs.Offering.{LeadsOn, LeadOn}
use Rattle.match_tree.specs.Growth.{AreEarned, Grows, steps_to}
use Rattle.match_tree.specs.Thinned.{AreVisited}
use Rattle.row_screens.proofs.MemberLemmas.{all_in}
use Rattle.match_tree.proofs.LeadLemmas.{all_both, lacks_later}
use Rattle.match_tree.proofs.VisitLemmas.{nothing_here, nothing_new}

-- one node of a row is another
pub all_set : (P : Route → Type 0) (q : ℕ) (row : List Branch) (i : ℕ) (now : Branch) → i < length row → AllByRecursion P (row_routes q row) → AllByRecursion P (node_routes q now) → AllByRecursion P (row_routes q (set row i now))
all_set P q [] i now within h here = absurd (omega arith)
all_set P q (node ∷ row) zero now within h here = all_both P (node_routes q now) (row_routes q row) here (all_right P (node_routes q node) (row_routes q row) h)
all_set P q (node ∷ row) (suc i) now within h here =
    all_both P (node_routes q node) (row_routes q (set row i now)) (all_left P (node_routes q node) (row_routes q row) h)
    (all_set P q row i now (omega arith) (all_right P (node_routes q node) (row_routes q row) h) here)

-- routes that the number may be offered behind do not take it
pub earned_lead : (o : Offered) (slots : Assignment) (routes : List Route) → LeadOn o slots routes → AreEarned o slots routes
earned_lead o slots [] h = tt
earned_lead o slots ([] ∷ routes) h = (tt, earned_lead o slots routes h.1)
earned_lead o slots ((s ∷ route) ∷ routes) h = ((λ none. lacks_later (with_number slots s.pattern s.number) route o.number h.0.climbs.2 h.0.can.below), earned_lead o slots routes h.1)

-- behind a path where no pattern may take the number, a visit adds no route
module _ (o : Offered) (longer : Assignment) (before now : List Route) (best : Option Candidate) (none : takers o longer ≡ []) (lead : LeadOn o longer before)
    (is : best ≡ least (new_matches o longer ([] ∷ seen o before))) (grows : best ≡ None → Grows o longer (growing o longer) before now) where
  no_growing : growing o longer ≡ []
  no_growing = ap (filter (leaves_one_free o longer)) none

  pub nothing_taken : (r : Route) → IsIn r now → lacks (o.number ∷ []) r ≡ true
  nothing_taken r m = by ((grows (is ∙ nothing_here o longer before none lead)).from r m)
    where
      by : IsIn r before ⊎ (IsIn r (new_routes o longer (seen o before)) ⊎ IsIn r (steps_to o.number (growing o longer))) → lacks (o.number ∷ []) r ≡ true
      by (inl old) = let leads = all_in (LeadsOn o longer) before r lead old in lacks_later longer r o.number leads.climbs leads.can.below
      by (inr (inl new)) = absurd (subst (λ (rs : List Route). IsIn r rs) (nothing_new o longer before none lead) new)
      by (inr (inr begun)) = absurd (subst (λ (ps : List ℕ). IsIn r (steps_to o.number ps)) no_growing begun)

-- the routes by a node that was visited
pub earned_node : (o : Offered) (slots longer : Assignment) (q : ℕ) (node now : Branch) (best : Option Candidate) → now.number ≡ node.number → with_number slots q node.number ≡ longer → LeadOn o (with_number slots q node.number) node.routes
    → best ≡ least (new_matches o longer ([] ∷ seen o node.routes)) → (best ≡ None → Grows o longer (growing o longer) node.routes now.routes) → AreEarned o slots (node_routes q now)
earned_node o slots longer q node now best same longer_is lead is grows = ((λ none. refl), each now.routes (λ r m. m))
  where
    path : with_number slots q now.number ≡ longer
    path = ap (with_number slots q) same ∙ longer_is

    each : (rs : List Route) → ((r : Route) → IsIn r rs → IsIn r now.routes) → AreEarned o slots (map (λ r. step q now.number ∷ r) rs)
    each [] inside = tt
    each (r ∷ rs) inside = (
      (λ none. nothing_taken o longer node.routes now.routes best (ap (takers o) (sym path) ∙ none) (subst (λ (s : Assignment). LeadOn o s node.routes) longer_is lead) is grows r (inside r (inl refl))),
      each rs (λ x m. inside x (inr m)),
    )

-- what a visit leaves that has found a match
pub visited_routes : (o : Offered) (slots : Assignment) (routes : List Route) → AreOpen slots routes → AreEarned o slots routes → LeadOn o slots (filter (lacks (o.number ∷ [])) routes) → AreVisited o slots routes
visited_routes o slots [] opens earned lead = tt
visited_routes o slots (r ∷ routes) opens earned lead = by (lacks (o.number ∷ []) r) refl lead (visited_routes o slots routes opens.1 earned.1)
  where
    kept : List Route
    kept = filter (lacks (o.number ∷ [])) routes

    by : (b : Bool) → lacks (o.number ∷ []) r ≡ b → LeadOn o slots (cond b (r ∷ kept) kept) → (LeadOn o slots kept → AreVisited o slots routes) → AreVisited o slots (r ∷ routes)
    by true e h later = (record { climbs = opens.0.climbs; earned = earned.0; lead = λ _. h.0 }, later h.1)
    by false e h later = (record { climbs = opens.0.climbs; earned = earned.0; lead = λ t. absurd cc }, later h)
