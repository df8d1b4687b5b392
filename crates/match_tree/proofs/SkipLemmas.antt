-- A walk over the nodes of a row that leaves out those that are not worth a visit, and what it makes of the node that it has come to.
use Rattle.std.proofs.Common.{◌≡◌, ◌∙◌, ℕ, zero, suc, ◌+◌, ◌-◌, ◌<◌, ◌≤◌, List, [], ◌∷◌, ◌++◌, length, take, drop, get_or, set, map, refl, sym, ap, subst, arith}
use Rattle.std.proofs.lemmas.List.{take_more, length-set, get_or-drop}
use Rattle.guard_eval.specs.Meaning.{Assignment}
use Rattle.tree_rows.specs.Routes.{Branch, with_number, node_routes, row_routes}
use Rattle.row_screens.specs.Offers.{Offered}
use Rattle.row_screens.specs.Below.{AreOpen}
use Rattle.row_screens.specs.Offering.{LeadOn}
use Rattle.tree_rows.specs.Order.{IsOrderedNode, IsSoundRow}
use Rattle.match_tree.specs.Growth.{Lasts}
use Rattle.match_tree.specs.Tries.{tried, tries_behind}
use Rattle.row_screens.specs.Screen.{AreOffered, AreWorthless, IsOffered, IsWorthless}
use Rattle.tree_rows.specs.Rows.{leaf, node_at}
use Rattle.match_tree.proofs.LeadLemmas.{Leads, lead_node, lead_below}
use Rattle.match_tree.proofs.VisitLemmas.{Passed, Stays, passed_both, passed_none}
use Rattle.row_screens.proofs.ScreenLemmas.{others}
use Rattle.match_tree.proofs.VisitLemmas.{passed_worthless}
use Rattle.match_tree.proofs.TriesLemmas.{tried_further}
use Rattle.tree_rows.proofs.WalkLemmas.{all_at, left_item, left_more, row_length}
use Rattle.match_tree.proofs.WalkLemmas.{counts_all, counts_on, left_set, passed_on, stays_sound, stopped, tries_most, tries_on}
use Rattle.match_tree.proofs.OpenLemmas.{open_all, open_both, open_node, open_on, open_one}

-- ---- a walk over the nodes before a place

-- the nodes before the place were passed without a match, and the others are as they were
pub record Walked (o : Offered) (slots : Assignment) (q : ℕ) (nodes items : List Branch) (count_before count steps_before steps place : ℕ) : Type 0 where
  pub passed : Passed o slots q (take place nodes) (take place items)
  pub opens : AreOpen slots (row_routes q (take place items))
  pub left : drop place items ≡ drop place nodes
  pub long : length items ≡ length nodes
  pub counted : count + length (row_routes q (take place nodes)) ≡ count_before + length (row_routes q (take place items))
  pub stepped : steps ≤ steps_before + tries_behind o slots (row_routes q (take place nodes))

module _ (o : Offered) (slots : Assignment) (q : ℕ) (nodes items : List Branch) (count_before count steps_before : ℕ) (sound : IsSoundRow nodes) (lead : LeadOn o slots (row_routes q nodes)) (opened : AreOpen slots (row_routes q nodes)) (wanted : 1 ≤ length (others o slots q)) where
  abbrev At : ℕ → ℕ → Type 0
  At steps place = Walked o slots q nodes items count_before count steps_before steps place

  -- a node more that is not worth a visit: it was looked at, in place of a try
  walk_on : (steps i : ℕ) → i < length nodes → IsWorthless o slots q (node_at items i).number → At steps i → At (steps + 1) (i + 1)
  walk_on steps i within worthless before =
      let d : Branch = leaf 0 in
      let node : Branch = node_at nodes i in
      let is : node_at items i ≡ node = left_item items nodes i d before.left in
      let none = subst (λ (x : Branch). IsWorthless o slots q x.number) is worthless in
      let within' : i < length items = omega (arith, before.long) in
      let nodes_is : take (i + 1) nodes ≡ take i nodes ++ node ∷ [] = take_more nodes i d within in
      let items_is : take (i + 1) items ≡ take i items ++ node ∷ [] = take_more items i d within' ∙ ap (λ (x : Branch). take i items ++ x ∷ []) is in
      let here = passed_worthless o slots q node none (all_at IsOrderedNode nodes i d within sound.ordered) (lead_node o slots q nodes i d within lead) in
      let both = passed_both o slots q (take i nodes) (node ∷ []) (take i items) (node ∷ []) before.passed here in
      let open_here = open_both slots q (take i items) (node ∷ []) before.opens (open_one slots q node (open_node slots q nodes i d within opened)) in
      let length_nodes = ap (λ (xs : List Branch). length (row_routes q xs)) nodes_is ∙ row_length q (take i nodes) node in
      let length_items = ap (λ (xs : List Branch). length (row_routes q xs)) items_is ∙ row_length q (take i items) node in
      let tried_on = tries_on o slots q nodes items i node d within refl in
      let leads = lead_below o slots q node (lead_node o slots q nodes i d within lead) in
      let tries : length (others o slots q) ≡ length (tried o (with_number slots q node.number)) = ap (λ (ps : List ℕ). length ps) (tried_further o slots q node.number leads.free leads.below) in
      record {
        passed = subst (λ (xs : List Branch). Passed o slots q (take (i + 1) nodes) xs) (sym items_is) (subst (λ (xs : List Branch). Passed o slots q xs (take i items ++ node ∷ [])) (sym nodes_is) both);
        opens = subst (λ (xs : List Branch). AreOpen slots (row_routes q xs)) (sym items_is) open_here;
        left = left_more items nodes i before.left;
        long = before.long;
        counted = omega (arith, before.counted, length_nodes, length_items);
        stepped = omega (arith, before.stepped, tried_on, tries, wanted);
      }

  -- so many nodes more that are not
  walk_far : (k steps i : ℕ) → i + k ≤ length nodes → AreWorthless o slots q items i (i + k) → At steps i → At (steps + k) (i + k)
  walk_far zero steps i within none before =
      let same : i ≡ i + 0 = omega arith in
      let still : steps ≡ steps + 0 = omega arith in
      subst (λ (n : ℕ). At n (i + 0)) still (subst (λ (p : ℕ). At steps p) same before)
  walk_far (suc k) steps i within none before =
      let more : (i + 1) + k ≡ i + suc k = omega arith in
      let stepped : (steps + 1) + k ≡ steps + suc k = omega arith in
      let on = walk_on steps i (omega arith) (none i (omega arith) (omega arith)) before in
      let far = walk_far k (steps + 1) (i + 1) (omega arith) (λ j from to. none j (omega arith) (omega arith)) on in
      subst (λ (n : ℕ). At n (i + suc k)) stepped (subst (λ (p : ℕ). At ((steps + 1) + k) p) more far)

  -- up to a place, where at most as many were looked at as there are
  pub walk_to : (steps now i to : ℕ) → i ≤ to → to ≤ length nodes → now + i ≤ steps + to → AreWorthless o slots q items i to → At steps i → At now to
  walk_to steps now i to from within few none before =
      let k : ℕ = to - i in
      let is : i + k ≡ to = omega arith in
      let far = subst (λ (p : ℕ). At (steps + k) p) is (walk_far k steps i (omega arith) (λ j l m. none j l (omega arith)) before) in
      record { passed = far.passed; opens = far.opens; left = far.left; long = far.long; counted = far.counted; stepped = omega (arith, far.stepped, few, is) }

-- at the first nodes nothing was passed
pub walk_first : (o : Offered) (slots : Assignment) (q : ℕ) (nodes : List Branch) (count steps : ℕ) → Walked o slots q nodes nodes count count steps steps 0
walk_first o slots q nodes count steps = record { passed = passed_none o slots q; opens = tt; left = refl; long = refl; counted = refl; stepped = omega arith }

-- the numbers of the nodes from the place on may be tried
pub walked_offers : {o : Offered} {slots : Assignment} {q : ℕ} (nodes items : List Branch) (place : ℕ) → LeadOn o slots (row_routes q nodes) → length items ≡ length nodes → drop place items ≡ drop place nodes → AreOffered o slots q items place
walked_offers {o} {slots} {q} nodes items place lead long left i from within =
    let d : Branch = leaf 0 in
    let gap : ℕ = i - place in
    let at : place + gap ≡ i = omega arith in
    let item : (xs : List Branch) → get_or (drop place xs) gap d ≡ get_or xs i d = λ xs. get_or-drop place xs gap d ∙ ap (λ (k : ℕ). get_or xs k d) at in
    let is : node_at nodes i ≡ node_at items i = sym (item nodes) ∙ ap (λ (xs : List Branch). get_or xs gap d) (sym left) ∙ item items in
    let leads = lead_below o slots q (node_at nodes i) (lead_node o slots q nodes i d (omega (arith, long)) lead) in
    subst (λ (x : Branch). IsOffered o slots q x.number) is (record { can = leads.can; free = leads.free })

-- ---- the node that a walk has come to

-- what is known of the node at the place
pub record Reached (o : Offered) (slots : Assignment) (q : ℕ) (nodes items : List Branch) (place : ℕ) (node : Branch) : Type 0 where
  pub is : node ≡ get_or nodes place node
  pub before : place < length nodes
  pub now : place < length items
  pub leads : Leads o slots q node
  pub lead : LeadOn o slots (node_routes q node)
  pub opened : AreOpen slots (node_routes q node)
  pub ordered : IsOrderedNode node

pub reach : {o : Offered} {slots : Assignment} {q : ℕ} {nodes items : List Branch} {count_before count steps_before steps place : ℕ} {node : Branch}
    → IsSoundRow nodes → LeadOn o slots (row_routes q nodes) → AreOpen slots (row_routes q nodes) → Walked o slots q nodes items count_before count steps_before steps place → place < length items → node ≡ get_or items place node
    → Reached o slots q nodes items place node
reach {o} {slots} {q} {nodes} {items} {count_before} {count} {steps_before} {steps} {place} {node} sound lead opened walked within is =
    let here : node ≡ get_or nodes place node = is ∙ left_item items nodes place node walked.left in
    let inside : place < length nodes = omega (arith, walked.long) in
    let leads_on = subst (λ (x : Branch). LeadOn o slots (node_routes q x)) (sym here) (lead_node o slots q nodes place node inside lead) in
    record {
      is = here;
      before = inside;
      now = within;
      leads = lead_below o slots q node leads_on;
      lead = leads_on;
      opened = subst (λ (x : Branch). AreOpen slots (node_routes q x)) (sym here) (open_node slots q nodes place node inside opened);
      ordered = subst IsOrderedNode (sym here) (all_at IsOrderedNode nodes place node inside sound.ordered);
    }

-- the node was passed, so the walk goes on behind it
pub go_on : {o : Offered} {slots : Assignment} {q : ℕ} {nodes items : List Branch} {count_before count steps_before steps place : ℕ} {node : Branch} (now : Branch) (count_now steps_now : ℕ)
    → Walked o slots q nodes items count_before count steps_before steps place → Reached o slots q nodes items place node → Passed o slots q (node ∷ []) (now ∷ []) → AreOpen slots (node_routes q now)
    → count_now + length node.routes ≡ count + length now.routes → steps_now ≤ steps + (length (tried o (with_number slots q node.number)) + tries_behind o (with_number slots q node.number) node.routes)
    → Walked o slots q nodes (set items place now) count_before count_now steps_before steps_now (place + 1)
go_on {o} {slots} {q} {nodes} {items} {count_before} {count} {steps_before} {steps} {place} {node} now count_now steps_now walked at passed opens counted stepped =
    let counts = counts_on o slots q nodes items place node now node at.before at.now at.is in
    let tried_on = tries_on o slots q nodes items place node node at.before at.is in
    record {
      passed = passed_on o slots q nodes items place node now node at.before at.now at.is walked.passed passed;
      opens = open_on slots q items place now at.now walked.opens opens;
      left = left_set o slots q nodes items place now walked.left;
      long = length-set items place now ∙ walked.long;
      counted = omega (arith, walked.counted, counted, counts.0, counts.1);
      stepped = omega (arith, walked.stepped, stepped, tried_on);
    }

-- what a walk leaves that stopped at a node
pub record Stopped (o : Offered) (slots : Assignment) (q : ℕ) (nodes items : List Branch) (count_before count steps_before steps : ℕ) : Type 0 where
  pub sound : IsSoundRow items
  pub free_left : AreOpen slots (row_routes q items)
  pub numbers : map (λ node. node.number) items ≡ map (λ node. node.number) nodes
  pub lasting : Lasts o.number (row_routes q nodes) (row_routes q items)
  pub counted : count + length (row_routes q nodes) ≡ count_before + length (row_routes q items)
  pub stepped : steps ≤ steps_before + tries_behind o slots (row_routes q nodes)

pub stop_at : {o : Offered} {slots : Assignment} {q : ℕ} {nodes items : List Branch} {count_before count steps_before steps place : ℕ} {node : Branch} (now : Branch) (count_now steps_now : ℕ)
    → IsSoundRow nodes → LeadOn o slots (row_routes q nodes) → AreOpen slots (row_routes q nodes) → Walked o slots q nodes items count_before count steps_before steps place → Reached o slots q nodes items place node
    → Stays o.number q (node ∷ []) (now ∷ []) → AreOpen slots (node_routes q now)
    → count_now + length node.routes ≡ count + length now.routes → steps_now ≤ steps + (length (tried o (with_number slots q node.number)) + tries_behind o (with_number slots q node.number) node.routes)
    → Stopped o slots q nodes (set items place now) count_before count_now steps_before steps_now
stop_at {o} {slots} {q} {nodes} {items} {count_before} {count} {steps_before} {steps} {place} {node} now count_now steps_now sound lead opened walked at stays opens counted stepped =
    let all = stopped o slots q nodes items place node now node at.before at.now at.is walked.left sound.ordered lead walked.passed.stays stays in
    let counts = counts_all o slots q nodes items place node now node at.before at.now at.is walked.left in
    let most = tries_most o slots q nodes items place node node at.before at.is in
    record {
      sound = stays_sound o.number q nodes (set items place now) sound all;
      free_left = open_all slots q nodes items place now at.now walked.left opened walked.opens opens;
      numbers = all.numbers;
      lasting = all.lasts;
      counted = omega (arith, walked.counted, counted, counts.0, counts.1);
      stepped = omega (arith, walked.stepped, stepped, most);
    }
