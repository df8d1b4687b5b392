-- A walk over the nodes of a row, of which those so far were passed and the others are as they were.
use Rattle.std.proofs.Common.{◌≡◌, ◌∙◌, ℕ, zero, suc, ◌+◌, ◌<◌, ◌≤◌, List, [], ◌∷◌, ◌++◌, map, length, take, drop, get_or, set, true, false, Option, None, Some, refl, sym, ap, subst, arith}
use Rattle.std.specs.Prelude.{nat_le, ◌==◌, not, is_some}
use Rattle.std.proofs.lemmas.Bool.Decides.{nat_tests}
use Rattle.row_screens.specs.Below.{AreBelow}
use Rattle.std.specs.List.{filter, AllByRecursion}
use Rattle.std.proofs.lemmas.List.{take-append-drop, drop_more, take_more, take_more_set, set_split, append-nil, drop-set-lt}
use Rattle.guard_eval.specs.Meaning.{Assignment}
use Rattle.pattern_core.specs.declared.candidate.Candidate.{Candidate}
use Rattle.pattern_core.specs.Choice.{least, lesser_of}
use Rattle.tree_rows.specs.Routes.{Route, Branch, with_number, node_routes, row_routes}
use Rattle.row_screens.specs.Offers.{Offered, is_free, takers, seen, new_matches}
use Rattle.row_screens.specs.Offering.{LeadOn}
use Rattle.tree_rows.specs.Order.{Rise, IsOrderedNode, IsSoundRow}
use Rattle.match_tree.specs.Tries.{tried, tries_behind}
use Rattle.match_tree.proofs.LeadLemmas.{lead_drop}
use Rattle.tree_rows.proofs.OrderLemmas.{later_numbers}
use Rattle.match_tree.proofs.TriesLemmas.{tries_append, tries_node, tried_further}
use Rattle.match_tree.proofs.FirstLemmas.{least_both, first_is_least}
use Rattle.match_tree.proofs.VisitLemmas.{Stays, Passed, stays_both, stays_same, passed_both}
use Rattle.tree_rows.proofs.ListLemmas.{row_append}
pub use Rattle.join_base.proofs.EachLemmas.{each_drop as all_drop}
use Rattle.tree_rows.proofs.WalkLemmas.{left_more, split_at_place, row_length, rows_length}

pub set_at_place : {X : Type 0} (xs : List X) (i : ℕ) (y : X) → i < length xs → set xs i y ≡ take i xs ++ y ∷ drop (i + 1) xs
set_at_place {X} xs i y within = let more : suc i ≡ i + 1 = omega arith in set_split xs i y within ∙ ap (λ (k : ℕ). take i xs ++ y ∷ drop k xs) more

rise_at : (nodes : List Branch) (i : ℕ) (d : Branch) → i < length nodes → Rise (map (λ node. node.number) nodes) → AllByRecursion (λ later. (get_or nodes i d).number < later.number) (drop (i + 1) nodes)
rise_at [] i d within h = absurd (omega arith)
rise_at (node ∷ nodes) zero d within h = later_numbers node.number nodes h.0
rise_at (node ∷ nodes) (suc i) d within h = let more : suc i + 1 ≡ suc (i + 1) = omega arith in rw more (rise_at nodes i d (omega arith) h.1)

module _ (o : Offered) (slots : Assignment) (q : ℕ) (nodes items : List Branch) (i : ℕ) where
  -- a walk that stops at a node
  pub stopped : (node now d : Branch) → i < length nodes → i < length items → node ≡ get_or nodes i d → drop i items ≡ drop i nodes → AllByRecursion IsOrderedNode nodes → LeadOn o slots (row_routes q nodes)
      → Stays o.number q (take i nodes) (take i items) → Stays o.number q (node ∷ []) (now ∷ []) → Stays o.number q nodes (set items i now)
  stopped node now d within within' is left ordered lead before here =
      let rest : List Branch = drop (i + 1) nodes in
      let behind = stays_same o slots q rest (all_drop IsOrderedNode nodes (i + 1) ordered) (lead_drop o slots q nodes (i + 1) lead) in
      let whole = stays_both o.number q (take i nodes) (node ∷ rest) (take i items) (now ∷ rest) before (stays_both o.number q (node ∷ []) rest (now ∷ []) rest here behind) in
      let nodes_is : nodes ≡ take i nodes ++ node ∷ rest = split_at_place nodes i d within ∙ ap (λ (x : Branch). take i nodes ++ x ∷ rest) (sym is) in
      let items_is : set items i now ≡ take i items ++ now ∷ rest = set_at_place items i now within' ∙ ap (λ (xs : List Branch). take i items ++ now ∷ xs) (left_more items nodes i left) in
      subst (λ (xs : List Branch). Stays o.number q nodes xs) (sym items_is) (subst (λ (xs : List Branch). Stays o.number q xs (take i items ++ now ∷ rest)) (sym nodes_is) whole)

  pub passed_on : (node now d : Branch) → i < length nodes → i < length items → node ≡ get_or nodes i d → Passed o slots q (take i nodes) (take i items) → Passed o slots q (node ∷ []) (now ∷ []) → Passed o slots q (take (i + 1) nodes) (take (i + 1) (set items i now))
  passed_on node now d within within' is before here =
      let whole = passed_both o slots q (take i nodes) (node ∷ []) (take i items) (now ∷ []) before here in
      let nodes_is : take (i + 1) nodes ≡ take i nodes ++ node ∷ [] = take_more nodes i d within ∙ ap (λ (x : Branch). take i nodes ++ x ∷ []) (sym is) in
      subst (λ (xs : List Branch). Passed o slots q (take (i + 1) nodes) xs) (sym (take_more_set items i now within')) (subst (λ (xs : List Branch). Passed o slots q xs (take i items ++ now ∷ [])) (sym nodes_is) whole)

  pub left_set : (now : Branch) → drop i items ≡ drop i nodes → drop (i + 1) (set items i now) ≡ drop (i + 1) nodes
  left_set now left = drop-set-lt (i + 1) items i now (omega arith) ∙ left_more items nodes i left

  -- how many routes there are, one node on
  pub counts_on : (node now d : Branch) → i < length nodes → i < length items → node ≡ get_or nodes i d
      → (length (row_routes q (take (i + 1) nodes)) ≡ length (row_routes q (take i nodes)) + (length node.routes + 1)) × (length (row_routes q (take (i + 1) (set items i now))) ≡ length (row_routes q (take i items)) + (length now.routes + 1))
  counts_on node now d within within' is = (
    ap (λ (xs : List Branch). length (row_routes q xs)) (take_more nodes i d within ∙ ap (λ (x : Branch). take i nodes ++ x ∷ []) (sym is)) ∙ row_length q (take i nodes) node,
    ap (λ (xs : List Branch). length (row_routes q xs)) (take_more_set items i now within') ∙ row_length q (take i items) now,
  )

  pub counts_all : (node now d : Branch) → i < length nodes → i < length items → node ≡ get_or nodes i d → drop i items ≡ drop i nodes
      → (length (row_routes q nodes) ≡ length (row_routes q (take i nodes)) + (length node.routes + 1) + length (row_routes q (drop (i + 1) nodes)))
      × (length (row_routes q (set items i now)) ≡ length (row_routes q (take i items)) + (length now.routes + 1) + length (row_routes q (drop (i + 1) nodes)))
  counts_all node now d within within' is left = (
    ap (λ (xs : List Branch). length (row_routes q xs)) (split_at_place nodes i d within ∙ ap (λ (x : Branch). take i nodes ++ x ∷ drop (i + 1) nodes) (sym is)) ∙ rows_length q (take i nodes) node (drop (i + 1) nodes),
    ap (λ (xs : List Branch). length (row_routes q xs)) (set_at_place items i now within' ∙ ap (λ (xs : List Branch). take i items ++ now ∷ xs) (left_more items nodes i left)) ∙ rows_length q (take i items) now (drop (i + 1) nodes),
  )

  pub tries_on : (node d : Branch) → i < length nodes → node ≡ get_or nodes i d
      → tries_behind o slots (row_routes q (take (i + 1) nodes)) ≡ tries_behind o slots (row_routes q (take i nodes)) + (length (tried o (with_number slots q node.number)) + tries_behind o (with_number slots q node.number) node.routes)
  tries_on node d within is =
      ap (λ (xs : List Branch). tries_behind o slots (row_routes q xs)) (take_more nodes i d within ∙ ap (λ (x : Branch). take i nodes ++ x ∷ []) (sym is))
      ∙ ap (tries_behind o slots) (row_append q (take i nodes) (node ∷ []))
      ∙ tries_append o slots (row_routes q (take i nodes)) (row_routes q (node ∷ []))
      ∙ ap (λ (n : ℕ). tries_behind o slots (row_routes q (take i nodes)) + n) (ap (tries_behind o slots) (append-nil (node_routes q node)) ∙ tries_node o slots q node)

  pub tries_most : (node d : Branch) → i < length nodes → node ≡ get_or nodes i d
      → tries_behind o slots (row_routes q (take i nodes)) + (length (tried o (with_number slots q node.number)) + tries_behind o (with_number slots q node.number) node.routes) ≤ tries_behind o slots (row_routes q nodes)
  tries_most node d within is =
      let whole = ap (λ (xs : List Branch). tries_behind o slots (row_routes q xs)) (split_at_place nodes i d within ∙ ap (λ (x : Branch). take i nodes ++ x ∷ drop (i + 1) nodes) (sym is))
      ∙ ap (tries_behind o slots) (row_append q (take i nodes) (node ∷ drop (i + 1) nodes))
      ∙ tries_append o slots (row_routes q (take i nodes)) (row_routes q (node ∷ drop (i + 1) nodes))
      in
      let here = tries_append o slots (node_routes q node) (row_routes q (drop (i + 1) nodes)) in
      let one = tries_node o slots q node in
      omega arith

  -- the match of a node behind nodes without one is the least of the row
  pub found_first : (node d : Branch) (found : Option Candidate) (c : Candidate) → i < length nodes → node ≡ get_or nodes i d → IsSoundRow nodes → LeadOn o slots (row_routes q nodes) → Passed o slots q (take i nodes) (take i items)
      → found ≡ Some c → found ≡ least (new_matches o slots (seen o (node_routes q node))) → found ≡ least (new_matches o slots (seen o (row_routes q nodes)))
  found_first node d found c within is sound lead before some here =
      let rest : List Branch = drop (i + 1) nodes in
      let P : Branch → Type 0 = λ x. AllByRecursion (λ later. x.number < later.number) rest in
      let later = subst P (sym is) (rise_at nodes i d within sound.rise) in
      let left_is : drop i nodes ≡ node ∷ rest = drop_more nodes i d within ∙ ap (λ (x : Branch). x ∷ rest) (sym is) in
      let lead_here = subst (λ (xs : List Branch). LeadOn o slots (row_routes q xs)) left_is (lead_drop o slots q nodes i lead) in
      let first = first_is_least o slots q node rest c later lead_here (sym here ∙ some) in
      let whole = ap (λ (xs : List Branch). least (new_matches o slots (seen o (row_routes q xs)))) (sym (take-append-drop i nodes) ∙ ap (λ (xs : List Branch). take i nodes ++ xs) left_is)
      ∙ ap (λ (rs : List Route). least (new_matches o slots (seen o rs))) (row_append q (take i nodes) (node ∷ rest))
      ∙ least_both o slots (row_routes q (take i nodes)) (row_routes q (node ∷ rest))
      ∙ ap (λ (b : Option Candidate). lesser_of b (least (new_matches o slots (seen o (row_routes q (node ∷ rest)))))) before.none
      in
      some ∙ sym first ∙ sym whole

-- rows whose nodes keep their numbers stay sound
pub stays_sound : (n q : ℕ) (before now : List Branch) → IsSoundRow before → Stays n q before now → IsSoundRow now
stays_sound n q before now sound stays = record { rise = subst Rise (sym stays.numbers) sound.rise; ordered = stays.ordered }

pub le_true : (a b : ℕ) → a ≤ b → nat_le a b ≡ true
le_true a b l = grind (arith, nat_tests)

pub le_false : (a b : ℕ) → b < a → nat_le a b ≡ false
le_false a b l = grind (arith, nat_tests)

pub some_of : {X : Type 0} (o : Option X) → is_some o ≡ true → (x : X) × (o ≡ Some x)
some_of None e = absurd cc
some_of (Some x) e = (x, refl)

pub none_of : {X : Type 0} (o : Option X) → is_some o ≡ false → o ≡ None
none_of None e = refl
none_of (Some x) e = absurd cc

-- the steps of a visit behind a path
pub steps_behind : (o : Offered) (slots longer : Assignment) (q : ℕ) (node : Branch) (wanted : List ℕ) (before now : ℕ) → is_free slots q ≡ true → AreBelow node.number slots
    → wanted ≡ filter (λ p. not (p == q)) (takers o slots) → with_number slots q node.number ≡ longer → now ≤ before + (length wanted + tries_behind o longer node.routes)
    → now ≤ before + (length (tried o (with_number slots q node.number)) + tries_behind o (with_number slots q node.number) node.routes)
steps_behind o slots longer q node wanted before now free below wanted_is longer_is h =
    let count : length wanted ≡ length (tried o (with_number slots q node.number)) = ap (λ (ps : List ℕ). length ps) (wanted_is ∙ tried_further o slots q node.number free below) in
    let behind : tries_behind o longer node.routes ≡ tries_behind o (with_number slots q node.number) node.routes = ap (λ (s : Assignment). tries_behind o s node.routes) (sym longer_is) in
    omega arith
