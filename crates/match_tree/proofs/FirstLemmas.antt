-- The match that is found first, in the order of the nodes' numbers, is the least.
use Rattle.std.proofs.Common.{◌≡◌, inl, inr, ◌∙◌, ℕ, ◌<◌, List, [], ◌∷◌, ◌++◌, map, Bool, true, Option, None, Some, refl, sym, ap, subst, append_assoc}
use Rattle.std.specs.Prelude.{if◌then◌else◌}
use Rattle.std.specs.List.{filter, AllByRecursion}
use Rattle.std.specs.Ordering.{nat_cmp, is_le, ordering_then}
use Rattle.std.specs.declared.cmp.Ordering.{Ordering}
use Rattle.std.specs.declared.cmp.Ordering.TheVariants.{Less}
use Rattle.std.specs.Cmp.{nat_cmp_is}
use Rattle.std.specs.Cmp.Lexicographic.{slice_cmp}
use Rattle.std.proofs.lemmas.Cmp.{nat_cmp_total, tied_itself}
use Rattle.std.proofs.lemmas.List.{append-nil}
use Rattle.guard_eval.specs.Meaning.{Assignment}
use Rattle.guard_eval.proofs.ExtendLemmas.{both_true}
use Rattle.join_base.specs.Numbers.{ascending}
use Rattle.pattern_core.specs.declared.candidate.Candidate.{Candidate}
use Rattle.pattern_core.specs.Members.{IsIn}
use Rattle.pattern_core.specs.Key.{numbers_cmp, key_cmp}
use Rattle.pattern_core.specs.Choice.{taken_of, candidate_of, lesser_of, least, IsChoice}
use Rattle.pattern_core.proofs.BestLemmas.{least-append}
use Rattle.pattern_core.proofs.ChoiceLemmas.{least-IsChoice}
use Rattle.pattern_core.proofs.MembersLemmas.{IsIn-append_cases, IsIn-filter_from, IsIn-map_from, IsIn-flat_map_from}
use Rattle.tree_rows.specs.Routes.{Route, Step, Branch, step, filled, with_number, node_routes, row_routes, is_seen}
use Rattle.row_screens.specs.Offers.{Offered, is_free, may_take, takers, completes, matches_at, seen, new_matches}
use Rattle.row_screens.specs.Below.{Climbs}
use Rattle.row_screens.specs.Offering.{LeadsOn, LeadOn}
use Rattle.row_screens.proofs.TakenLemmas.{ascending_further}
use Rattle.tree_rows.proofs.ListLemmas.{flat_map-append}
use Rattle.guard_eval.proofs.ReadyLemmas.{all_left, all_right}
use Rattle.std.proofs.lemmas.List.Elements.{filter-append}
use Rattle.row_screens.proofs.MemberLemmas.{all_in}

-- lists that first differ where the one has the lesser number
less_at : (front : List ℕ) (a b : ℕ) (xs ys : List ℕ) → a < b → numbers_cmp (front ++ a ∷ xs) (front ++ b ∷ ys) ≡ Less
less_at [] a b xs ys l = ap (λ (r : Ordering). ordering_then r (slice_cmp nat_cmp xs ys)) (sym (nat_cmp_is a b Less l))
less_at (n ∷ front) a b xs ys l = ap (λ (r : Ordering). ordering_then r (slice_cmp nat_cmp (front ++ a ∷ xs) (front ++ b ∷ ys))) (tied_itself nat_cmp_total n) ∙ less_at front a b xs ys l

-- the numbers of a route that climbs stand behind those of the path
climbed : (slots : Assignment) (route : Route) → Climbs slots route → ascending (taken_of (filled slots route)) ≡ ascending (taken_of slots) ++ map (λ s. s.number) route
climbed slots [] climbs = sym (append-nil (ascending (taken_of slots)))
climbed slots (s ∷ route) climbs =
    climbed (with_number slots s.pattern s.number) route climbs.2
    ∙ ap (λ (ns : List ℕ). ns ++ map (λ x. x.number) route) (ascending_further slots s.pattern s.number climbs.0 climbs.1)
    ∙ append_assoc (ascending (taken_of slots)) (s.number ∷ []) (map (λ x. x.number) route)

-- the match has the numbers of the path, and then this one
pub record Begins (slots : Assignment) (number : ℕ) (c : Candidate) : Type 0 where
  pub rest : List ℕ
  pub is : ascending c.taken ≡ ascending (taken_of slots) ++ number ∷ rest

-- of two such matches that with the older number is the lesser
pub begins_less : (slots : Assignment) (a b : ℕ) (c d : Candidate) → a < b → Begins slots a c → Begins slots b d → is_le (key_cmp c d) ≡ true
begins_less slots a b c d l h k =
    let less : numbers_cmp (ascending c.taken) (ascending d.taken) ≡ Less = (λ i. numbers_cmp (h.is i) (k.is i)) ∙ less_at (ascending (taken_of slots)) a b h.rest k.rest l in
    ap (λ (r : Ordering). is_le (ordering_then r (ordering_then (nat_cmp c.rule d.rule) (numbers_cmp c.taken d.taken)))) less

pub all_members : {X : Type 0} (P : X → Type 0) (xs : List X) → ((x : X) → IsIn x xs → P x) → AllByRecursion P xs
all_members P [] h = tt
all_members P (x ∷ xs) h = (h x (inl refl), all_members P xs (λ y m. h y (inr m)))

module _ (o : Offered) (slots : Assignment) where
  begins_match : (s : Step) (route : Route) (c : Candidate) → LeadsOn o slots (s ∷ route) → IsIn c (matches_at o (filled slots (s ∷ route))) → Begins slots s.number c
  begins_match s route c lead m =
      let path : Assignment = filled slots (s ∷ route) in
      let found = IsIn-map_from (λ (p : ℕ). candidate_of o.rule (with_number path p o.number)) c (filter (completes o path) (takers o path)) m in
      let taker = IsIn-filter_from (may_take o path) found.0 _ (IsIn-filter_from (completes o path) found.0 (takers o path) found.1).0 in
      let free = (both_true (is_free path found.0) _ taker.1).0 in
      let front : List ℕ = ascending (taken_of slots) in
      let there : ascending (taken_of (with_number path found.0 o.number)) ≡ front ++ s.number ∷ (map (λ x. x.number) route ++ o.number ∷ []) =
      ascending_further path found.0 o.number free lead.can.below
      ∙ ap (λ (ns : List ℕ). ns ++ o.number ∷ []) (climbed slots (s ∷ route) lead.climbs)
      ∙ append_assoc front (s.number ∷ map (λ x. x.number) route) (o.number ∷ [])
      in
      record { rest = map (λ x. x.number) route ++ o.number ∷ []; is = subst (λ (x : Candidate). ascending x.taken ≡ front ++ s.number ∷ (map (λ y. y.number) route ++ o.number ∷ [])) found.2 there }

  step_first : (q : ℕ) (node : Branch) (route : Route) → IsIn route (node_routes q node) → (rest : Route) × (step q node.number ∷ rest ≡ route)
  step_first q node route (inl e) = ([], e)
  step_first q node route (inr m) = let w = IsIn-map_from (λ (r : Route). step q node.number ∷ r) route node.routes m in (w.0, w.2)

  pub begins_node : (q : ℕ) (node : Branch) (c : Candidate) → LeadOn o slots (node_routes q node) → IsIn c (new_matches o slots (seen o (node_routes q node))) → Begins slots node.number c
  begins_node q node c lead m =
      let at = IsIn-flat_map_from (λ (r : Route). matches_at o (filled slots r)) c (seen o (node_routes q node)) m in
      let route_in = (IsIn-filter_from (is_seen o.oldest) at.0 (node_routes q node) at.1).0 in
      let first = step_first q node at.0 route_in in
      let leads = all_in (LeadsOn o slots) (node_routes q node) at.0 lead route_in in
      begins_match (step q node.number) first.0 c (subst (LeadsOn o slots) (sym first.1) leads) (subst (λ (r : Route). IsIn c (matches_at o (filled slots r))) (sym first.1) at.2)

  pub matches_both : (xs ys : List Route) → new_matches o slots (seen o (xs ++ ys)) ≡ new_matches o slots (seen o xs) ++ new_matches o slots (seen o ys)
  matches_both xs ys = ap (new_matches o slots) (filter-append (is_seen o.oldest) xs ys) ∙ flat_map-append (λ (r : Route). matches_at o (filled slots r)) (seen o xs) (seen o ys)

  -- the least of one list and another
  pub least_both : (xs ys : List Route) → least (new_matches o slots (seen o (xs ++ ys))) ≡ lesser_of (least (new_matches o slots (seen o xs))) (least (new_matches o slots (seen o ys)))
  least_both xs ys = ap least (matches_both xs ys) ∙ least-append (new_matches o slots (seen o xs)) (new_matches o slots (seen o ys))

  -- a match is no greater than those of later nodes
  later_greater : (q a : ℕ) (row : List Branch) (c d : Candidate) → Begins slots a c → AllByRecursion (λ node. a < node.number) row → LeadOn o slots (row_routes q row)
      → IsIn d (new_matches o slots (seen o (row_routes q row))) → is_le (key_cmp c d) ≡ true
  later_greater q a [] c d begins later lead m = absurd m
  later_greater q a (node ∷ row) c d begins later lead m =
      elim (IsIn-append_cases d (new_matches o slots (seen o (node_routes q node))) (new_matches o slots (seen o (row_routes q row))) (subst (IsIn d) (matches_both (node_routes q node) (row_routes q row)) m)) [
        | inl l ↦ begins_less slots a node.number c d later.0 begins (begins_node q node d (all_left (LeadsOn o slots) (node_routes q node) (row_routes q row) lead) l)
        | inr r ↦ later_greater q a row c d begins later.1 (all_right (LeadsOn o slots) (node_routes q node) (row_routes q row) lead) r
      ]

  stays_least : (c : Candidate) (ds : List Candidate) (b : Option Candidate) → IsChoice ds b → ((d : Candidate) → IsIn d ds → is_le (key_cmp c d) ≡ true) → lesser_of (Some c) b ≡ Some c
  stays_least c ds None h k = refl
  stays_least c ds (Some d) h k = ap (λ (t : Bool). if t then Some c else Some d) (k d h.member)

  member_of : (cs : List Candidate) (c : Candidate) (b : Option Candidate) → IsChoice cs b → b ≡ Some c → IsIn c cs
  member_of cs c None h e = absurd cc
  member_of cs c (Some d) h e = let same : d ≡ c = cc in subst (λ (x : Candidate). IsIn x cs) same h.member

  -- the first node that has a match has the least one
  pub first_is_least : (q : ℕ) (node : Branch) (row : List Branch) (c : Candidate) → AllByRecursion (λ later. node.number < later.number) row → LeadOn o slots (node_routes q node ++ row_routes q row)
      → least (new_matches o slots (seen o (node_routes q node))) ≡ Some c → least (new_matches o slots (seen o (node_routes q node ++ row_routes q row))) ≡ Some c
  first_is_least q node row c later lead e =
      let here : List Candidate = new_matches o slots (seen o (node_routes q node)) in
      let others : List Candidate = new_matches o slots (seen o (row_routes q row)) in
      let begins = begins_node q node c (all_left (LeadsOn o slots) (node_routes q node) (row_routes q row) lead) (member_of here c (least here) (least-IsChoice here) e) in
      least_both (node_routes q node) (row_routes q row)
      ∙ ap (λ (b : Option Candidate). lesser_of b (least others)) e
      ∙ stays_least c others (least others) (least-IsChoice others) (λ d m. later_greater q node.number row c d begins later (all_right (LeadsOn o slots) (node_routes q node) (row_routes q row) lead) m)
