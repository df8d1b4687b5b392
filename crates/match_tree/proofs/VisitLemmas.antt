-- A visit, node by node and row by row.
use Rattle.std.proofs.Common.{◌≡◌, inl, ◌∙◌, ℕ, ◌<◌, List, [], ◌∷◌, ◌++◌, map, Bool, true, false, not, ◌&&◌, cond, None, refl, sym, ap, subst, ◌⊎◌, inr}
use Rattle.std.specs.Prelude.{nat_le, ◌==◌}
use Rattle.std.specs.List.{filter, AllByRecursion}
use Rattle.std.proofs.lemmas.List.{append-nil, map-append}
use Rattle.guard_eval.specs.Meaning.{Assignment}
use Rattle.guard_eval.proofs.ReadyLemmas.{all_left, all_right}
use Rattle.pattern_core.specs.declared.candidate.Candidate.{Candidate}
use Rattle.pattern_core.specs.Choice.{least, lesser_of}
use Rattle.pattern_core.specs.Members.{IsIn}
use Rattle.tree_rows.specs.Routes.{Route, Step, Branch, step, filled, with_number, node_routes, row_routes, lacks, is_seen}
use Rattle.row_screens.specs.Offers.{Offered, is_free, may_take, takers, growing, leaves_one_free, matches_at, seen, new_routes, new_matches, matches_of}
use Rattle.row_screens.specs.Offering.{MayTry, LeadsOn, LeadOn}
use Rattle.tree_rows.specs.Order.{IsOrderedNode}
use Rattle.match_tree.specs.Growth.{Lasts, Grows}
use Rattle.guard_eval.proofs.ExtendLemmas.{both_true}
use Rattle.row_screens.proofs.SlotsLemmas.{free_further, free_is_none}
use Rattle.row_screens.proofs.TakeLemmas.{and_of, no_takers_further, no_takers_behind}
use Rattle.match_tree.proofs.GrowLemmas.{grows_both, grows_none, grows_unseen, grows_node, lasts_both, seen_node, unseen_node}
use Rattle.match_tree.proofs.LeadLemmas.{all_both, lead_lasts, lead_below, not_it}
use Rattle.match_tree.proofs.FirstLemmas.{least_both}
pub use Rattle.join_base.proofs.EachLemmas.{each_filter as all_filter}
use Rattle.tree_rows.proofs.ListLemmas.{row_append}

-- ---- nodes that keep their numbers, whose routes are ordered and last
pub record Stays (n q : ℕ) (before now : List Branch) : Type 0 where
  pub numbers : map (λ node. node.number) now ≡ map (λ node. node.number) before
  pub ordered : AllByRecursion IsOrderedNode now
  pub lasts : Lasts n (row_routes q before) (row_routes q now)

pub stays_both : (n q : ℕ) (xs ys xs' ys' : List Branch) → Stays n q xs xs' → Stays n q ys ys' → Stays n q (xs ++ ys) (xs' ++ ys')
stays_both n q xs ys xs' ys' g h =
    let number : Branch → ℕ = λ node. node.number in
    record {
      numbers = map-append number xs' ys' ∙ (λ i. g.numbers i ++ h.numbers i) ∙ sym (map-append number xs ys);
      ordered = all_both IsOrderedNode xs' ys' g.ordered h.ordered;
      lasts = ap (filter (lacks (n ∷ []))) (row_append q xs' ys') ∙ lasts_both n (row_routes q xs) (row_routes q ys) (row_routes q xs') (row_routes q ys') g.lasts h.lasts ∙ sym (row_append q xs ys);
    }

pub stays_same : (o : Offered) (slots : Assignment) (q : ℕ) (row : List Branch) → AllByRecursion IsOrderedNode row → LeadOn o slots (row_routes q row) → Stays o.number q row row
stays_same o slots q row ordered lead = record { numbers = refl; ordered = ordered; lasts = lead_lasts o slots (row_routes q row) lead }

lasts_behind : (n : ℕ) (s : Step) (before now : List Route) → s.number < n → Lasts n before now → Lasts n (map (λ r. s ∷ r) before) (map (λ r. s ∷ r) now)
lasts_behind n s before now l h = filter_map-step now ∙ ap (map (λ (r : Route). s ∷ r)) h
  where
    one : (r : Route) (b : Bool) → lacks (n ∷ []) r ≡ b → (rs : List Route) → filter (lacks (n ∷ [])) (map (λ x. s ∷ x) rs) ≡ map (λ x. s ∷ x) (filter (lacks (n ∷ [])) rs)
        → filter (lacks (n ∷ [])) (map (λ x. s ∷ x) (r ∷ rs)) ≡ map (λ x. s ∷ x) (cond b (r ∷ filter (lacks (n ∷ [])) rs) (filter (lacks (n ∷ [])) rs))
    one r true e rs later = λ i. cond (not_it s.number n l i && e i) ((s ∷ r) ∷ later i) (later i)
    one r false e rs later = λ i. cond (not_it s.number n l i && e i) ((s ∷ r) ∷ later i) (later i)

    filter_map-step : (rs : List Route) → filter (lacks (n ∷ [])) (map (λ x. s ∷ x) rs) ≡ map (λ x. s ∷ x) (filter (lacks (n ∷ [])) rs)
    filter_map-step [] = refl
    filter_map-step (r ∷ rs) = one r (lacks (n ∷ []) r) refl rs (filter_map-step rs)

pub stays_node : (n q : ℕ) (node now : Branch) → node.number < n → now.number ≡ node.number → IsOrderedNode now → Lasts n node.routes now.routes → Stays n q (node ∷ []) (now ∷ [])
stays_node n q node now l same ordered h =
    let s : Step = step q node.number in
    let now_is : node_routes q now ≡ map (λ r. s ∷ r) ([] ∷ now.routes) = ap (λ (m : ℕ). (step q m ∷ []) ∷ map (λ r. step q m ∷ r) now.routes) same in
    let behind : Lasts n (map (λ r. s ∷ r) ([] ∷ node.routes)) (map (λ r. s ∷ r) ([] ∷ now.routes)) = lasts_behind n s ([] ∷ node.routes) ([] ∷ now.routes) l (ap (λ (rs : List Route). [] ∷ rs) h) in
    record {
      numbers = ap (λ (m : ℕ). m ∷ []) same;
      ordered = (ordered, tt);
      lasts = ap (filter (lacks (n ∷ []))) (append-nil (node_routes q now) ∙ now_is) ∙ behind ∙ sym (append-nil (node_routes q node));
    }

-- ---- nodes that a number has passed without a match
pub record Passed (o : Offered) (slots : Assignment) (q : ℕ) (before now : List Branch) : Type 0 where
  pub stays : Stays o.number q before now
  pub grows : Grows o slots [] (row_routes q before) (row_routes q now)
  pub none : least (new_matches o slots (seen o (row_routes q before))) ≡ None

module _ (o : Offered) (slots : Assignment) (q : ℕ) where
  pub passed_none : Passed o slots q [] []
  passed_none = record { stays = record { numbers = refl; ordered = tt; lasts = refl }; grows = grows_none o slots; none = refl }

  pub passed_both : (xs ys xs' ys' : List Branch) → Passed o slots q xs xs' → Passed o slots q ys ys' → Passed o slots q (xs ++ ys) (xs' ++ ys')
  passed_both xs ys xs' ys' g h =
      let grown = grows_both o slots [] [] (row_routes q xs) (row_routes q ys) (row_routes q xs') (row_routes q ys') g.grows h.grows in
      let P : List Route → List Route → Type 0 = λ as' bs. Grows o slots [] as' bs in
      record {
        stays = stays_both o.number q xs ys xs' ys' g.stays h.stays;
        grows = subst (λ (rs : List Route). Grows o slots [] (row_routes q (xs ++ ys)) rs) (sym (row_append q xs' ys')) (subst (λ (rs : List Route). Grows o slots [] rs (row_routes q xs' ++ row_routes q ys')) (sym (row_append q xs ys)) grown);
        none = ap (λ (rs : List Route). least (new_matches o slots (seen o rs))) (row_append q xs ys) ∙ least_both o slots (row_routes q xs) (row_routes q ys) ∙ (λ i. lesser_of (g.none i) (h.none i));
      }

  matches_behind : (s : Step) (routes : List Route) → new_matches o slots (map (λ r. s ∷ r) routes) ≡ new_matches o (with_number slots s.pattern s.number) routes
  matches_behind s [] = refl
  matches_behind s (r ∷ routes) = ap (λ (cs : List Candidate). matches_at o (filled (with_number slots s.pattern s.number) r) ++ cs) (matches_behind s routes)

  -- the matches of a node that is seen are those of the longer path and behind it
  pub matches_node : (node : Branch) → nat_le o.oldest node.number ≡ true → new_matches o slots (seen o (node_routes q node)) ≡ new_matches o (with_number slots q node.number) ([] ∷ seen o node.routes)
  matches_node node h = ap (new_matches o slots) (seen_node o q node h) ∙ matches_behind (step q node.number) ([] ∷ seen o node.routes)

  one_grows : (node now : Branch) → Grows o slots [] (node_routes q node) (node_routes q now) → Grows o slots [] (row_routes q (node ∷ [])) (row_routes q (now ∷ []))
  one_grows node now g = grows_both o slots [] [] (node_routes q node) [] (node_routes q now) [] g (grows_none o slots)

  one_none : (node : Branch) → least (new_matches o slots (seen o (node_routes q node))) ≡ None → least (new_matches o slots (seen o (row_routes q (node ∷ [])))) ≡ None
  one_none node h = ap (λ (rs : List Route). least (new_matches o slots (seen o rs))) (append-nil (node_routes q node)) ∙ h

  -- a node that the definition no longer sees
  pub passed_unseen : (node : Branch) → nat_le o.oldest node.number ≡ false → IsOrderedNode node → LeadOn o slots (node_routes q node) → Passed o slots q (node ∷ []) (node ∷ [])
  passed_unseen node h ordered lead =
      let none = unseen_node o q node h in
      record {
        stays = stays_same o slots q (node ∷ []) (ordered, tt) (all_both (LeadsOn o slots) (node_routes q node) [] lead tt);
        grows = one_grows node node (grows_unseen o slots (node_routes q node) none);
        none = one_none node (ap (λ (rs : List Route). least (new_matches o slots rs)) none);
      }

  -- a node that was visited
  pub passed_seen : (node now : Branch) → nat_le o.oldest node.number ≡ true → node.number < o.number → now.number ≡ node.number → IsOrderedNode now → Lasts o.number node.routes now.routes
      → Grows o (with_number slots q node.number) (growing o (with_number slots q node.number)) node.routes now.routes
      → least (new_matches o (with_number slots q node.number) ([] ∷ seen o node.routes)) ≡ None
      → Passed o slots q (node ∷ []) (now ∷ [])
  passed_seen node now h l same ordered lasts grown none = record {
    stays = stays_node o.number q node now l same ordered lasts;
    grows = one_grows node now (grows_node o slots q node now h same grown);
    none = one_none node (ap least (matches_node node h) ∙ none);
  }

-- ---- where no pattern may take the number

module _ (o : Offered) (slots : Assignment) where
  -- no pattern may take the number at the end of the route
  abbrev Quiet : Route → Type 0
  Quiet route = takers o (filled slots route) ≡ []

  quiet_matches : (routes : List Route) → AllByRecursion Quiet routes → new_matches o slots routes ≡ []
  quiet_matches [] h = refl
  quiet_matches (r ∷ routes) h = λ i. matches_of o (filled slots r) (h.0 i) ++ quiet_matches routes h.1 i

  quiet_routes : (routes : List Route) → AllByRecursion Quiet routes → new_routes o slots routes ≡ []
  quiet_routes [] h = refl
  quiet_routes (r ∷ routes) h = λ i. map (λ p. r ++ step p o.number ∷ []) (filter (leaves_one_free o (filled slots r)) (h.0 i)) ++ quiet_routes routes h.1 i

  pub quiet_below : (routes : List Route) → takers o slots ≡ [] → LeadOn o slots routes → AllByRecursion Quiet routes
  quiet_below [] none h = tt
  quiet_below (r ∷ routes) none h = (no_takers_behind o slots r h.0.climbs none, quiet_below routes none h.1)

  grows_quiet : (routes : List Route) → new_routes o slots (seen o routes) ≡ [] → Grows o slots [] routes routes
  grows_quiet routes none = record {
    from = λ r m. inl m;
    keeps = λ r m. m;
    adds = λ r m. absurd (subst (IsIn r) none m);
    begins = λ r m. absurd m;
  }

  pub quiet_grows : (routes : List Route) → AllByRecursion Quiet routes → Grows o slots [] routes routes
  quiet_grows routes h = grows_quiet routes (quiet_routes (seen o routes) (all_filter Quiet (is_seen o.oldest) routes h))

  pub quiet_least : (routes : List Route) → AllByRecursion Quiet routes → least (new_matches o slots (seen o routes)) ≡ None
  quiet_least routes h = ap least (quiet_matches (seen o routes) (all_filter Quiet (is_seen o.oldest) routes h))

  pub nothing_new : (routes : List Route) → takers o slots ≡ [] → LeadOn o slots routes → new_routes o slots (seen o routes) ≡ []
  nothing_new routes none lead = quiet_routes (seen o routes) (all_filter Quiet (is_seen o.oldest) routes (quiet_below routes none lead))

  -- where no pattern may take the number here, none may anywhere behind
  pub nothing_here : (routes : List Route) → takers o slots ≡ [] → LeadOn o slots routes → least (new_matches o slots ([] ∷ seen o routes)) ≡ None
  nothing_here routes none lead =
      let quiet = all_filter Quiet (is_seen o.oldest) routes (quiet_below routes none lead) in
      ap least (λ i. matches_of o slots (none i) ++ quiet_matches (seen o routes) quiet i)

  pub nothing_grows : (routes : List Route) → takers o slots ≡ [] → LeadOn o slots routes → Grows o slots (growing o slots) routes routes
  nothing_grows routes none lead =
      let no_growing : growing o slots ≡ [] = ap (filter (leaves_one_free o slots)) none in
      subst (λ (ps : List ℕ). Grows o slots ps routes routes) (sym no_growing) (quiet_grows routes (quiet_below routes none lead))

quiet_map : (o : Offered) (slots : Assignment) (s : Step) (routes : List Route) → AllByRecursion (Quiet o (with_number slots s.pattern s.number)) routes → AllByRecursion (Quiet o slots) (map (λ r. s ∷ r) routes)
quiet_map o slots s [] h = tt
quiet_map o slots s (r ∷ routes) h = (h.0, quiet_map o slots s routes h.1)

-- where no other pattern may take the number, none may behind a number at this one
pub quiet_row : (o : Offered) (slots : Assignment) (q : ℕ) (row : List Branch) → filter (λ p. not (p == q)) (takers o slots) ≡ [] → LeadOn o slots (row_routes q row) → AllByRecursion (Quiet o slots) (row_routes q row)
quiet_row o slots q [] none h = tt
quiet_row o slots q (node ∷ row) none h =
    let leads = lead_below o slots q node (all_left (LeadsOn o slots) (node_routes q node) (row_routes q row) h) in
    let longer : Assignment = with_number slots q node.number in
    let here = no_takers_further o slots q node.number leads.free none in
    all_both (Quiet o slots) (node_routes q node) (row_routes q row)
    (quiet_map o slots (step q node.number) ([] ∷ node.routes) (here, quiet_below o longer node.routes here leads.lead))
    (quiet_row o slots q row none (all_right (LeadsOn o slots) (node_routes q node) (row_routes q row) h))

-- the others of the patterns that may take the number may be tried behind a number at this one
pub tries_further : (o : Offered) (slots : Assignment) (q m : ℕ) (ps : List ℕ) → AllByRecursion (λ p. may_take o slots p ≡ true) ps → AllByRecursion (MayTry (with_number slots q m)) (filter (λ p. not (p == q)) ps)
tries_further o slots q m [] h = tt
tries_further o slots q m (p ∷ ps) h = by (not (p == q)) refl (tries_further o slots q m ps h.1)
  where
    by : (b : Bool) → not (p == q) ≡ b → AllByRecursion (MayTry (with_number slots q m)) (filter (λ x. not (x == q)) ps)
        → AllByRecursion (MayTry (with_number slots q m)) (cond b (p ∷ filter (λ x. not (x == q)) ps) (filter (λ x. not (x == q)) ps))
    by true e later =
        let free = (both_true (is_free slots p) _ h.0).0 in
        (free_is_none (with_number slots q m) p (free_further slots q m p ∙ and_of (is_free slots p) (not (p == q)) free e), later)
    by false e later = later

-- a node behind which no pattern may take the number
pub passed_quiet : (o : Offered) (slots : Assignment) (q : ℕ) (node : Branch) → takers o (with_number slots q node.number) ≡ [] → IsOrderedNode node → LeadOn o slots (node_routes q node) → Passed o slots q (node ∷ []) (node ∷ [])
passed_quiet o slots q node none ordered lead =
    let leads = lead_below o slots q node lead in
    let behind = quiet_below o (with_number slots q node.number) node.routes none leads.lead in
    let quiet = quiet_map o slots (step q node.number) ([] ∷ node.routes) (none, behind) in
    record {
      stays = stays_same o slots q (node ∷ []) (ordered, tt) (all_both (LeadsOn o slots) (node_routes q node) [] lead tt);
      grows = one_grows o slots q node node (quiet_grows o slots (node_routes q node) quiet);
      none = one_none o slots q node (quiet_least o slots (node_routes q node) quiet);
    }

-- ---- a node that is not worth a visit

pub passed_worthless : (o : Offered) (slots : Assignment) (q : ℕ) (node : Branch) → (nat_le o.oldest node.number ≡ false) ⊎ (takers o (with_number slots q node.number) ≡ [])
    → IsOrderedNode node → LeadOn o slots (node_routes q node) → Passed o slots q (node ∷ []) (node ∷ [])
passed_worthless o slots q node why ordered lead = elim why [
  | inl unseen ↦ passed_unseen o slots q node unseen ordered lead
  | inr none ↦ passed_quiet o slots q node none ordered lead
]
