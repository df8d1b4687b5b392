use Rattle.std.specs.declared.collections.VecDeque.{VecDeque}
use Rattle.std.proofs.Common.{Vec, inl, true, false, length-append, ◌≡◌, ◌≢◌, ◌∙◌, ◌<◌, ◌≤◌, ◌+◌, ap, sym, subst, arith, ℕ, List, None, refl, zero-add, take, drop, get_or, set, length, map, slice_get}
use Rattle.std.specs.Prelude.{IfOk, IfSome, nat_le, ◌==◌, not, [], ◌∷◌, ◌++◌}
use Rattle.std.specs.List.{filter, AllByRecursion}
use Rattle.std.specs.declared.alloc.Global.{Global}
use Rattle.guard_eval.specs.Meaning.{Assignment}
use Rattle.row_screens.specs.Offers.{Offered, places, may_take, takers, growing, matches_of, matches_at, seen, new_matches}
use Rattle.match_tree.specs.Growth.{AreEarned, Grows, IsEarned, Lasts}
use Rattle.match_tree.proofs.EarnLemmas.{all_set, earned_lead, earned_node}
use Rattle.match_tree.specs.Begins.{AreLess}
use Rattle.match_tree.specs.Behind.{routes_behind}
use Rattle.match_tree.specs.Tries.{tries_behind}
use Rattle.pattern_core.specs.Choice.{least}
use Rattle.tree_rows.specs.Order.{AreOrdered, IsSoundRow, AreSound, Rise}
use Rattle.std.proofs.lemmas.List.{nil_from_length, take_all, take_at, append-nil, drop-set-lt, get_or_default, length-set}
use Rattle.match_tree.proofs.GrowLemmas.{grows_none}
use Rattle.match_tree.proofs.BeginLemmas.{grows_begun, no_value, no_ok}
use Rattle.tree_rows.proofs.RowsLemmas.{before_all, now_routes, counts_rows_on}
use Rattle.match_tree.proofs.RowsLemmas.{now_all, numbers_below, sound_on, less_on, sound_all, lasts_on, lasts_all, lesser_none, best_on, grows_on, tries_rows_on, tries_rows_most}
use Rattle.tree_rows.specs.Routes.{Route, Branch, node_routes, row_routes, rows_routes, with_number}
use Rattle.row_screens.specs.Below.{IsOpen, AreOpen}
use Rattle.match_tree.proofs.LeadLemmas.{all_both}
use Rattle.tree_rows.proofs.PruneLemmas.{all_rows, all_rows_drop}
use Rattle.match_tree.proofs.OpenLemmas.{open_below, open_now}
use Rattle.row_screens.specs.Offering.{offered, CanOffer, MayTry, MayTake, LeadOn}
use Rattle.match_tree.proofs.LeadLemmas.{lead_lasts, lead_row}
use Rattle.match_tree.proofs.VisitLemmas.{passed_seen, passed_unseen, stays_node, matches_node, quiet_row, quiet_least, quiet_grows, tries_further, nothing_here, nothing_grows}
use Rattle.row_screens.proofs.MemberLemmas.{all_take}
use Rattle.match_tree.proofs.WalkLemmas.{some_of, none_of, steps_behind, found_first}
use Rattle.tree_rows.proofs.WalkLemmas.{all_at, left_item, left_more}
use Rattle.row_screens.specs.Screen.{AreWorthless, IsWorthless, Screens}
use Rattle.row_screens.proofs.LookLemmas.{left_alike, numbers_set}
use Rattle.match_tree.proofs.SkipLemmas.{Reached, Stopped, Walked, go_on, reach, stop_at, walk_first, walk_to, walked_offers}
use Rattle.tree_rows.proofs.OrderLemmas.{rows_ordered_behind, rows_sound}
use Rattle.row_screens.proofs.SlotsLemmas.{free_is_none}
use Rattle.row_screens.proofs.TakeLemmas.{takers_further}
use Rattle.row_screens.proofs.TrialLemmas.{free_small, outside_behind}
use Rattle.row_screens.proofs.AskLemmas.{outside_asked}
use Rattle.row_screens.specs.Trial.{AllStandOutside}
use Rattle.match_tree.proofs.visit.+visit.Goals as goal
use Rattle.match_tree.proofs.visit.+visit.Goals.{visit_node-in-Some, visit_node-in_default, visit_nodes-After-visit_at, visit_nodes-In_ok-found, visit_only-After-visit_at, visit_at-After-visit_leaf_at-in-Leaves, visit_at-After-visit_leaf_at-in-Many, visit_rows-After-visit_each, visit_rows-In_ok-best}
use denote.Param.Weighed.{at_most}
use Rattle.tree_rows.specs.declared.node.Shape.{Shape}
use Rattle.tree_rows.specs.Shapes.{rows_behind, branches}
use Rattle.tree_rows.specs.declared.node.Node.TheDeep.{size-Node, size-Row}
use denote.Param.Weighed.{most}
use Rattle.tree_rows.specs.declared.node.Node.{Node}
use Rattle.tree_rows.specs.Rows.{leaf, node_at}
use Rattle.tree_rows.proofs.LeafLemmas.{leaf_routes}
use Rattle.tree_rows.proofs.FallLemmas.{node_weighs, nodes_fall, rows_fall}

-- the patterns that are wanted behind a row
wanted_are : (o : Offered) (slots : Assignment) (q : ℕ) (able wanted : List ℕ) → able ≡ takers o slots → wanted ≡ filter (λ p. not (p == q)) able → wanted ≡ filter (λ p. not (p == q)) (takers o slots)
wanted_are o slots q able wanted able_is is = is ∙ ap (filter (λ p. not (p == q))) able_is

pub visit_row-returns-then-end-eq0-clause-lasting : goal.visit_row-returns-then-end-eq0-clause-lasting
visit_row-returns-then-end-eq0-clause-lasting g t c = lead_lasts (offered c.args.offer.now) c.args.slots.now (row_routes c.args.pattern c.args.row.now) c.requires.lead

pub visit_row-returns-then-end-eq0-clause-best : goal.visit_row-returns-then-end-eq0-clause-best
visit_row-returns-then-end-eq0-clause-best g t c =
    let a = c.args in
    let none = nil_from_length a.row.now (sym c.len-end.ensures ∙ c.if-end-eq0.true) in
    ap (λ (row : List Branch). least (new_matches (offered a.offer.now) a.slots.now (seen (offered a.offer.now) (row_routes a.pattern row)))) (sym none)

pub visit_row-returns-then-end-eq0-clause-grows : goal.visit_row-returns-then-end-eq0-clause-grows
visit_row-returns-then-end-eq0-clause-grows g t c =
    let a = c.args in
    let o = offered a.offer.now in
    let none = nil_from_length a.row.now (sym c.len-end.ensures ∙ c.if-end-eq0.true) in
    λ e. subst (λ (row : List Branch). Grows o a.slots.now [] (row_routes a.pattern row) (row_routes a.pattern row)) (sym none) (grows_none o a.slots.now)

pub visit_row-returns-then-end-eq0-clause-earned : goal.visit_row-returns-then-end-eq0-clause-earned
visit_row-returns-then-end-eq0-clause-earned g t c = earned_lead (offered c.args.offer.now) c.args.slots.now (row_routes c.args.pattern c.args.row.now) c.requires.lead

pub visit_row-returns-then-is_only-clause-lasting : goal.visit_row-returns-then-is_only-clause-lasting
visit_row-returns-then-is_only-clause-lasting g t c = lead_lasts (offered c.args.offer.now) c.args.slots.now (row_routes c.args.pattern c.args.row.now) c.requires.lead

pub visit_row-returns-then-is_only-clause-best : goal.visit_row-returns-then-is_only-clause-best
visit_row-returns-then-is_only-clause-best g t c =
    let a = c.args in
    let o = offered a.offer.now in
    let none = c.is_only.ensures c.if-is_only.true in
    sym (quiet_least o a.slots.now (row_routes a.pattern a.row.now) (quiet_row o a.slots.now a.pattern a.row.now (sym (wanted_are o a.slots.now a.pattern a.able.now _ c.requires.able refl) ∙ none) c.requires.lead))

pub visit_row-returns-then-is_only-clause-grows : goal.visit_row-returns-then-is_only-clause-grows
visit_row-returns-then-is_only-clause-grows g t c =
    let a = c.args in
    let o = offered a.offer.now in
    let none = c.is_only.ensures c.if-is_only.true in
    λ e. quiet_grows o a.slots.now (row_routes a.pattern a.row.now) (quiet_row o a.slots.now a.pattern a.row.now (sym (wanted_are o a.slots.now a.pattern a.able.now _ c.requires.able refl) ∙ none) c.requires.lead)

pub visit_row-returns-then-is_only-clause-earned : goal.visit_row-returns-then-is_only-clause-earned
visit_row-returns-then-is_only-clause-earned g t c = earned_lead (offered c.args.offer.now) c.args.slots.now (row_routes c.args.pattern c.args.row.now) c.requires.lead

pub visit_row-returns-then-len-eq0-clause-lasting : goal.visit_row-returns-then-len-eq0-clause-lasting
visit_row-returns-then-len-eq0-clause-lasting g t c = lead_lasts (offered c.args.offer.now) c.args.slots.now (row_routes c.args.pattern c.args.row.now) c.requires.lead

pub visit_row-returns-then-len-eq0-clause-best : goal.visit_row-returns-then-len-eq0-clause-best
visit_row-returns-then-len-eq0-clause-best g t c =
    let a = c.args in
    let o = offered a.offer.now in
    let none = nil_from_length c.without-wanted.result (sym c.len.ensures.count ∙ c.if-len-eq0.true) in
    sym (quiet_least o a.slots.now (row_routes a.pattern a.row.now) (quiet_row o a.slots.now a.pattern a.row.now (sym (wanted_are o a.slots.now a.pattern a.able.now c.without-wanted.result c.requires.able c.without-wanted.ensures) ∙ none) c.requires.lead))

pub visit_row-returns-then-len-eq0-clause-grows : goal.visit_row-returns-then-len-eq0-clause-grows
visit_row-returns-then-len-eq0-clause-grows g t c =
    let a = c.args in
    let o = offered a.offer.now in
    let none = nil_from_length c.without-wanted.result (sym c.len.ensures.count ∙ c.if-len-eq0.true) in
    λ e. quiet_grows o a.slots.now (row_routes a.pattern a.row.now) (quiet_row o a.slots.now a.pattern a.row.now (sym (wanted_are o a.slots.now a.pattern a.able.now c.without-wanted.result c.requires.able c.without-wanted.ensures) ∙ none) c.requires.lead)

pub visit_row-returns-then-len-eq0-clause-earned : goal.visit_row-returns-then-len-eq0-clause-earned
visit_row-returns-then-len-eq0-clause-earned g t c = earned_lead (offered c.args.offer.now) c.args.slots.now (row_routes c.args.pattern c.args.row.now) c.requires.lead

pub visit_row-visit_only-requires : goal.visit_row-visit_only-requires
visit_row-visit_only-requires g t c =
    let a = c.args in
    let o = offered a.offer.now in
    let wanted = wanted_are o a.slots.now a.pattern a.able.now c.without-wanted.result c.requires.able c.without-wanted.ensures in
    λ κs h. (
      omega (arith, c.decreases),
      (h, (c.requires.can, (wanted, (omega (arith, c.len.ensures.count, c.if-len-eq0.false), (sym c.len-end.ensures ∙ c.if-end-eq1.true, (c.requires.sound, (c.requires.lead, c.requires.free_left))))))),
    )

pub visit_row-visit_nodes-requires : goal.visit_row-visit_nodes-requires
visit_row-visit_nodes-requires g t c =
    let a = c.args in
    let o = offered a.offer.now in
    let wanted = wanted_are o a.slots.now a.pattern a.able.now c.without-wanted.result c.requires.able c.without-wanted.ensures in
    λ κs h. (
      omega (arith, c.decreases),
      (h, (c.requires.can, (wanted, (omega (arith, c.len.ensures.count, c.if-len-eq0.false), (c.requires.sound, (c.requires.lead, c.requires.free_left)))))),
    )

-- the one node of a row
only_node : (row : List Branch) → length row ≡ 1 → row ≡ node_at row 0 ∷ []
only_node [] h = absurd (omega (arith, h))
only_node (x ∷ []) h = refl
only_node (x ∷ y ∷ row) h = absurd (omega (arith, h))

-- what is known of it
only_reached : (o : Offered) (slots : Assignment) (q : ℕ) (row : List Branch) (count steps : ℕ) → length row ≡ 1 → IsSoundRow row → LeadOn o slots (row_routes q row) → AreOpen slots (row_routes q row) → Reached o slots q row row 0 (node_at row 0)
only_reached o slots q row count steps one sound lead opened =
    let within : 0 < length row = omega (arith, one) in
    reach sound lead opened (walk_first o slots q row count steps) within (get_or_default row 0 (leaf 0) (node_at row 0) within)

pub visit_only-returns-then-not-sees : goal.visit_only-returns-then-not-sees
visit_only-returns-then-not-sees g t c =
    let a = c.args in
    let o = offered a.offer.now in
    let row : List Branch = a.row.now in
    let unseen : nat_le o.oldest (node_at row 0).number ≡ false = ap (nat_le o.oldest) (sym c.number_at-number.ensures) ∙ sym c.sees.ensures ∙ c.if-not-sees.true in
    let is = only_node row c.requires.one in
    let at = only_reached o a.slots.now a.pattern a.row.now a.count.now a.steps.now c.requires.one c.requires.sound c.requires.lead c.requires.free_left in
    let passed = passed_unseen o a.slots.now a.pattern (node_at row 0) unseen at.ordered at.lead in
    let wanted = subst (λ (ps : List ℕ). 1 ≤ length ps) c.requires.wanted c.requires.some in
    let none : AreWorthless o a.slots.now a.pattern row 0 1 = λ i from to. (let zero_is : 0 ≡ i = omega (arith, from, to) in subst (λ (k : ℕ). IsWorthless o a.slots.now a.pattern (node_at row k).number) zero_is (inl unseen)) in
    let walked = walk_to o a.slots.now a.pattern row row a.count.now a.count.now a.steps.now c.requires.sound c.requires.lead c.requires.free_left wanted a.steps.now (a.steps.now + 1) 0 1 (omega arith) (omega (arith, c.requires.one)) (omega arith) none (walk_first o a.slots.now a.pattern row a.count.now a.steps.now) in
    let all : take 1 row ≡ row = take_all 1 row (omega (arith, c.requires.one)) in
    record {
      sound = c.requires.sound;
      free_left = c.requires.free_left;
      numbers = refl;
      lasting = lead_lasts o a.slots.now (row_routes a.pattern row) c.requires.lead;
      best = sym (subst (λ (xs : List Branch). least (new_matches o a.slots.now (seen o (row_routes a.pattern xs))) ≡ None) (sym is) passed.none);
      grows = λ e. subst (λ (xs : List Branch). Grows o a.slots.now [] (row_routes a.pattern xs) (row_routes a.pattern xs)) (sym is) passed.grows;
      earned = earned_lead o a.slots.now (row_routes a.pattern row) c.requires.lead;
      counted = refl;
      stepped = (
          let few = subst (λ (xs : List Branch). a.steps.now + 1 ≤ a.steps.now + tries_behind o a.slots.now (row_routes a.pattern xs)) all walked.stepped in
          omega (arith, few, c.tick.ensures)
          );
    }

pub visit_only-with-longer-requires : goal.visit_only-with-longer-requires
visit_only-with-longer-requires g t c =
    let a = c.args in
    let o = offered a.offer.now in
    let at = only_reached o a.slots.now a.pattern a.row.now a.count.now a.steps.now c.requires.one c.requires.sound c.requires.lead c.requires.free_left in
    free_is_none c.args.slots.now c.args.pattern at.leads.free

pub visit_only-visit_at-requires : goal.visit_only-visit_at-requires
visit_only-visit_at-requires g t c =
    let a = c.args in
    let o = offered a.offer.now in
    let node : Branch = node_at a.row.now 0 in
    let at = only_reached o a.slots.now a.pattern a.row.now a.count.now a.steps.now c.requires.one c.requires.sound c.requires.lead c.requires.free_left in
    let longer : with_number a.slots.now a.pattern node.number ≡ c.with-longer.result = ap (with_number a.slots.now a.pattern) (sym c.number_at-number.ensures) ∙ sym c.with-longer.ensures in
    let takers_are = takers_further o a.slots.now a.pattern node.number at.leads.free in
    let Can : Assignment → Type 0 = λ s. CanOffer o s in
    let Free : Assignment → Type 0 = λ s. AllByRecursion (MayTry s) a.wanted.now in
    let Wanted : Assignment → Type 0 = λ s. filter (may_take o s) a.wanted.now ≡ takers o s in
    let Lead : Assignment → Type 0 = λ s. LeadOn o s node.routes in
    let free : Free (with_number a.slots.now a.pattern node.number) =
    subst (λ (ps : List ℕ). AllByRecursion (MayTry (with_number a.slots.now a.pattern node.number)) ps) (sym c.requires.wanted)
    (tries_further o a.slots.now a.pattern node.number (takers o a.slots.now) (all_take o a.slots.now (places 0 o.definition.patterns)))
    in
    let asked = c.naming-asked.result in
    let Outside : Assignment → Type 0 = λ s. AllStandOutside o asked s a.wanted.now in
    let outside : Outside (with_number a.slots.now a.pattern node.number) =
    subst (λ (ps : List ℕ). AllStandOutside o asked (with_number a.slots.now a.pattern node.number) ps) (sym c.requires.wanted)
    (outside_behind o a.slots.now a.pattern node.number asked at.leads.free (a.offer.now.tied a.pattern asked c.naming-asked.ensures))
    in
    λ κs h. (
      omega (arith, c.decreases, nodes_fall a.row.now, at_most size-Node a.row.now 0 node at.before, ap size-Node at.is),
      (
        h,
        (
          subst Can longer at.leads.can,
          (
            subst Outside longer outside,
            (
              subst Free longer free,
              (
                subst Wanted longer (ap (filter (may_take o (with_number a.slots.now a.pattern node.number))) c.requires.wanted ∙ takers_are),
                (at.now, (at.ordered, (subst Lead longer at.leads.lead, subst (λ (s : Assignment). AreOpen s node.routes) longer (open_below a.slots.now a.pattern node at.opened)))),
              ),
            ),
          ),
        ),
      ),
    )

pub visit_only-naming-asked-requires : goal.visit_only-naming-asked-requires
visit_only-naming-asked-requires g t c =
    let a = c.args in
    let o = offered a.offer.now in
    let at = only_reached o a.slots.now a.pattern a.row.now a.count.now a.steps.now c.requires.one c.requires.sound c.requires.lead c.requires.free_left in
    free_small o a.slots.now a.pattern c.requires.can at.leads.free

-- what the visit of the one node leaves of its row
only_left : (g : _) (t : _) (c : visit_only-After-visit_at g t) → Stopped (offered c.args.offer.now) c.args.slots.now c.args.pattern c.args.row.now c.visit_at.new.row c.args.count.now c.visit_at.new.count c.args.steps.now c.visit_at.new.steps
only_left g t c =
    let a = c.args in
    let o = offered a.offer.now in
    let row : List Branch = a.row.now in
    let node : Branch = node_at row 0 in
    let now : Branch = node_at c.visit_at.new.row 0 in
    let at = only_reached o a.slots.now a.pattern a.row.now a.count.now a.steps.now c.requires.one c.requires.sound c.requires.lead c.requires.free_left in
    let e = c.visit_at.ensures in
    let longer : with_number a.slots.now a.pattern node.number ≡ c.with-longer.result = ap (with_number a.slots.now a.pattern) (sym c.number_at-number.ensures) ∙ sym c.with-longer.ensures in
    let opens = open_now a.slots.now a.pattern node now e.number at.opened (subst (λ (s : Assignment). AreOpen s now.routes) (sym longer) e.free_left) in
    let stepped = steps_behind o a.slots.now c.with-longer.result a.pattern node a.wanted.now a.steps.now c.visit_at.new.steps at.leads.free at.leads.below c.requires.wanted longer e.stepped in
    let walked = walk_first o a.slots.now a.pattern row a.count.now a.steps.now in
    let left = stop_at now c.visit_at.new.count c.visit_at.new.steps c.requires.sound c.requires.lead c.requires.free_left walked at (stays_node o.number a.pattern node now at.leads.less e.number e.ordered e.lasting) opens e.counted stepped in
    subst (λ (xs : List Branch). Stopped o a.slots.now a.pattern row xs a.count.now c.visit_at.new.count a.steps.now c.visit_at.new.steps) (sym e.placed) left

pub visit_only-returns-in_err-found : goal.visit_only-returns-in_err-found
visit_only-returns-in_err-found g t c =
    let a = c.args in
    let o = offered a.offer.now in
    let left = only_left g t (goal.at.visit_only-returns-in_err-found g t c).After-visit_at in
    record {
      sound = left.sound;
      free_left = left.free_left;
      numbers = left.numbers;
      lasting = left.lasting;
      best = no_value (λ b. b ≡ least (new_matches o a.slots.now (seen o (row_routes a.pattern a.row.now)))) _ c.from_residual.result c.from_residual.ensures.1;
      grows = no_value (λ b. b ≡ None → Grows o a.slots.now [] (row_routes a.pattern a.row.now) (row_routes a.pattern c.visit_at.new.row)) _ c.from_residual.result c.from_residual.ensures.1;
      earned = no_value (λ b. AreEarned o a.slots.now (row_routes a.pattern c.visit_at.new.row)) _ c.from_residual.result c.from_residual.ensures.1;
      counted = left.counted;
      stepped = left.stepped;
    }

pub visit_only-returns : goal.visit_only-returns
visit_only-returns g t c =
    let a = c.args in
    let o = offered a.offer.now in
    let row : List Branch = a.row.now in
    let node : Branch = node_at row 0 in
    let now : Branch = node_at c.visit_at.new.row 0 in
    let at = only_reached o a.slots.now a.pattern a.row.now a.count.now a.steps.now c.requires.one c.requires.sound c.requires.lead c.requires.free_left in
    let e = c.visit_at.ensures in
    let f = c.in_ok-found.ensures in
    let longer : with_number a.slots.now a.pattern node.number ≡ c.with-longer.result = ap (with_number a.slots.now a.pattern) (sym c.number_at-number.ensures) ∙ sym c.with-longer.ensures in
    let seen_too : nat_le o.oldest node.number ≡ true = ap (nat_le o.oldest) (sym c.number_at-number.ensures) ∙ sym c.sees.ensures ∙ c.if-not-sees.false in
    let is : row ≡ node ∷ [] = only_node row c.requires.one in
    let set_is : set row 0 now ≡ now ∷ [] = ap (λ (xs : List Branch). set xs 0 now) is in
    let now_is : c.visit_at.new.row ≡ now ∷ [] = e.placed ∙ set_is in
    let matches = ap (λ (s : Assignment). least (new_matches o s ([] ∷ seen o node.routes))) (sym longer) ∙ ap least (sym (matches_node o a.slots.now a.pattern node seen_too)) in
    let routes_are : row_routes a.pattern row ≡ node_routes a.pattern node = ap (row_routes a.pattern) is ∙ append-nil (node_routes a.pattern node) in
    let left = only_left g t (goal.at.visit_only-returns g t c).After-visit_at in
    let here = earned_node o a.slots.now c.with-longer.result a.pattern node now c.in_ok-found.found e.number longer at.leads.lead f.best f.grows in
    record {
      sound = left.sound;
      free_left = left.free_left;
      numbers = left.numbers;
      lasting = left.lasting;
      best = f.best ∙ matches ∙ ap (λ (rs : List Route). least (new_matches o a.slots.now (seen o rs))) (sym routes_are);
      grows = λ none.
          let grown = subst (λ (s : Assignment). Grows o s (growing o s) node.routes now.routes) (sym longer) (f.grows none) in
          let no_match = ap (λ (s : Assignment). least (new_matches o s ([] ∷ seen o node.routes))) longer ∙ sym f.best ∙ none in
          let passed = passed_seen o a.slots.now a.pattern node now seen_too at.leads.less e.number e.ordered e.lasting grown no_match in
          subst (λ (xs : List Branch). Grows o a.slots.now [] (row_routes a.pattern row) (row_routes a.pattern xs)) (sym now_is) (subst (λ (xs : List Branch). Grows o a.slots.now [] (row_routes a.pattern xs) (row_routes a.pattern (now ∷ []))) (sym is) passed.grows);
      earned = subst (λ (xs : List Branch). AreEarned o a.slots.now (row_routes a.pattern xs)) (sym now_is) (all_both (IsEarned o a.slots.now) (node_routes a.pattern now) [] here tt);
      counted = left.counted;
      stepped = left.stepped;
    }

pub visit_nodes-next_place-place-requires-clause-rise : goal.visit_nodes-next_place-place-requires-clause-rise
visit_nodes-next_place-place-requires-clause-rise g t c = c.requires.sound.rise

pub visit_nodes-next_place-place-requires-clause-offered : goal.visit_nodes-next_place-place-requires-clause-offered
visit_nodes-next_place-place-requires-clause-offered g t c = walked_offers c.args.row.now c.args.row.now 0 c.requires.lead refl refl

pub visit_nodes-next_place-place-requires-clause-left : goal.visit_nodes-next_place-place-requires-clause-left
visit_nodes-next_place-place-requires-clause-left g t c = c.looked_up-left.ensures

pub visit_nodes-next_place-place-requires-clause-screen : goal.visit_nodes-next_place-place-requires-clause-screen
visit_nodes-next_place-place-requires-clause-screen g t c =
    let a = c.args in
    let Is : List ℕ → Type 0 = λ ps. IfSome c.screen_of-screen.result (Screens (offered a.offer.now) a.slots.now a.pattern ps) in
    subst Is c.requires.wanted c.screen_of-screen.ensures

pub visit_nodes-looked_up-left-requires : goal.visit_nodes-looked_up-left-requires
visit_nodes-looked_up-left-requires g t c =
    let a = c.args in
    let Is : List ℕ → Type 0 = λ ps. IfSome c.screen_of-screen.result (Screens (offered a.offer.now) a.slots.now a.pattern ps) in
    record {
      can = c.requires.can;
      wanted = c.requires.wanted;
      screen = subst Is c.requires.wanted c.screen_of-screen.ensures;
      rise = c.requires.sound.rise;
      offered = walked_offers a.row.now a.row.now 0 c.requires.lead refl refl;
    }

pub visit_nodes-loop-place-init : goal.visit_nodes-loop-place-init
visit_nodes-loop-place-init g t c =
    let a = c.args in
    let o = offered a.offer.now in
    let row : List Branch = a.row.now in
    let e = c.next_place-place.ensures in
    let steps : ℕ = c.next_place-place.new.steps in
    let wanted = subst (λ (ps : List ℕ). 1 ≤ length ps) c.requires.wanted c.requires.some in
    record {
      walked = walk_to o a.slots.now a.pattern row row a.count.now a.count.now a.steps.now c.requires.sound c.requires.lead c.requires.free_left wanted a.steps.now steps 0 c.next_place-place.result e.from e.within e.counted e.skipped (walk_first o a.slots.now a.pattern row a.count.now a.steps.now);
      seen = e.seen;
      asked = e.asked;
      numbers = refl;
      left = e.left;
      earned = earned_lead o a.slots.now (row_routes a.pattern row) c.requires.lead;
    }

pub visit_nodes-with-longer-requires : goal.visit_nodes-with-longer-requires
visit_nodes-with-longer-requires g t c =
    let a = c.args in
    let within : c.loop-place.place < length c.loop-place.row = omega (arith, c.loop-place-test.true, c.len-end.ensures, c.loop-place.invariant.walked.long) in
    let at = reach c.requires.sound c.requires.lead c.requires.free_left c.loop-place.invariant.walked within (get_or_default c.loop-place.row c.loop-place.place (leaf 0) (node_at c.loop-place.row c.loop-place.place) within) in
    free_is_none a.slots.now a.pattern at.leads.free

pub visit_nodes-left_to_ask-asked-requires : goal.visit_nodes-left_to_ask-asked-requires
visit_nodes-left_to_ask-asked-requires g t c =
    let a = c.args in
    let within : c.loop-place.place < length c.loop-place.row = omega (arith, c.loop-place-test.true, c.len-end.ensures, c.loop-place.invariant.walked.long) in
    let at = reach c.requires.sound c.requires.lead c.requires.free_left c.loop-place.invariant.walked within (get_or_default c.loop-place.row c.loop-place.place (leaf 0) (node_at c.loop-place.row c.loop-place.place) within) in
    free_small (offered a.offer.now) a.slots.now a.pattern c.requires.can at.leads.free

pub visit_nodes-visit_at-requires : goal.visit_nodes-visit_at-requires
visit_nodes-visit_at-requires g t c =
    let a = c.args in
    let o = offered a.offer.now in
    let node : Branch = node_at c.loop-place.row c.loop-place.place in
    let within : c.loop-place.place < length c.loop-place.row = omega (arith, c.loop-place-test.true, c.len-end.ensures, c.loop-place.invariant.walked.long) in
    let at = reach c.requires.sound c.requires.lead c.requires.free_left c.loop-place.invariant.walked within (get_or_default c.loop-place.row c.loop-place.place (leaf 0) (node_at c.loop-place.row c.loop-place.place) within) in
    let longer : with_number a.slots.now a.pattern node.number ≡ c.with-longer.result = ap (with_number a.slots.now a.pattern) (sym c.number_at.ensures) ∙ sym c.with-longer.ensures in
    let takers_are = takers_further o a.slots.now a.pattern node.number at.leads.free in
    let Can : Assignment → Type 0 = λ s. CanOffer o s in
    let Free : Assignment → Type 0 = λ s. AllByRecursion (MayTry s) a.wanted.now in
    let Wanted : Assignment → Type 0 = λ s. filter (may_take o s) a.wanted.now ≡ takers o s in
    let Lead : Assignment → Type 0 = λ s. LeadOn o s node.routes in
    let free : Free (with_number a.slots.now a.pattern node.number) =
    subst (λ (ps : List ℕ). AllByRecursion (MayTry (with_number a.slots.now a.pattern node.number)) ps) (sym c.requires.wanted)
    (tries_further o a.slots.now a.pattern node.number (takers o a.slots.now) (all_take o a.slots.now (places 0 o.definition.patterns)))
    in
    let asked = c.left_to_ask-asked.result in
    let Outside : Assignment → Type 0 = λ s. AllStandOutside o asked s a.wanted.now in
    let outside : Outside (with_number a.slots.now a.pattern node.number) =
    subst (λ (ps : List ℕ). AllStandOutside o asked (with_number a.slots.now a.pattern node.number) ps) (sym c.requires.wanted)
    (outside_asked o a.slots.now a.pattern node.number c.screen_of-screen.result (slice_get a.offer.now.ties.now.cells a.pattern) asked at.leads.free (a.offer.now.tied a.pattern) c.left_to_ask-asked.ensures (c.loop-place.invariant.asked within))
    in
    λ κs h. (
      omega (arith, c.decreases, nodes_fall a.row.now, at_most size-Node a.row.now c.loop-place.place node at.before, ap size-Node at.is),
      (
        h,
        (
          subst Can longer at.leads.can,
          (
            subst Outside longer outside,
            (
              subst Free longer free,
              (
                subst Wanted longer (ap (filter (may_take o (with_number a.slots.now a.pattern node.number))) c.requires.wanted ∙ takers_are),
                (within, (at.ordered, (subst Lead longer at.leads.lead, subst (λ (s : Assignment). AreOpen s node.routes) longer (open_below a.slots.now a.pattern node at.opened)))),
              ),
            ),
          ),
        ),
      ),
    )

pub visit_at-visit_leaf_at-requires-in-Leaves-clause-leaf : goal.visit_at-visit_leaf_at-requires-in-Leaves-clause-leaf
visit_at-visit_leaf_at-requires-in-Leaves-clause-leaf g t c = leaf_routes c.in-Leaves.field-0.value.items c.args.place (branches c.row.inside.nodes) (sym (ap branches c.in-Leaves.is))

-- from a leaf no routes lead on before the visit
no_routes : (g : _) (t : _) (c : visit_at-After-visit_leaf_at-in-Leaves g t) → (node_at c.args.row.now c.args.place).routes ≡ []
no_routes g t c = leaf_routes c.in-Leaves.field-0.value.items c.args.place c.args.row.now (sym (ap branches c.in-Leaves.is) ∙ c.row.view_is)

pub visit_at-returns-in-Leaves-clause-lasting : goal.visit_at-returns-in-Leaves-clause-lasting
visit_at-returns-in-Leaves-clause-lasting g t c =
    let none = no_routes g t (goal.at.visit_at-returns-in-Leaves-clause-lasting g t c).After-visit_leaf_at-in-Leaves in
    c.visit_leaf_at-in-Leaves.ensures.behind.lasting ∙ sym none

pub visit_at-returns-in-Leaves-clause-best : goal.visit_at-returns-in-Leaves-clause-best
visit_at-returns-in-Leaves-clause-best g t c =
    let none = no_routes g t (goal.at.visit_at-returns-in-Leaves-clause-best g t c).After-visit_leaf_at-in-Leaves in
    let o = offered c.args.offer.now in
    let At : List Route → Type 0 = λ rs. IfOk c.visit_leaf_at-in-Leaves.result (λ b. b ≡ least (new_matches o c.args.slots.now ([] ∷ seen o rs))) in
    subst At (sym none) c.visit_leaf_at-in-Leaves.ensures.best

pub visit_at-returns-in-Leaves-clause-grows : goal.visit_at-returns-in-Leaves-clause-grows
visit_at-returns-in-Leaves-clause-grows g t c =
    let none = no_routes g t (goal.at.visit_at-returns-in-Leaves-clause-grows g t c).After-visit_leaf_at-in-Leaves in
    let o = offered c.args.offer.now in
    let now : List Route = (node_at c.visit_leaf_at-in-Leaves.new.row c.args.place).routes in
    let At : List Route → Type 0 = λ rs. IfOk c.visit_leaf_at-in-Leaves.result (λ b. b ≡ None → Grows o c.args.slots.now (growing o c.args.slots.now) rs now) in
    subst At (sym none) c.visit_leaf_at-in-Leaves.ensures.grows

pub visit_at-returns-in-Leaves-clause-counted : goal.visit_at-returns-in-Leaves-clause-counted
visit_at-returns-in-Leaves-clause-counted g t c =
    let none = no_routes g t (goal.at.visit_at-returns-in-Leaves-clause-counted g t c).After-visit_leaf_at-in-Leaves in
    omega (arith, c.visit_leaf_at-in-Leaves.ensures.counted, ap (λ (rs : List Route). length rs) none)

pub visit_at-visit_leaf_at-requires-in-Many-clause-leaf : goal.visit_at-visit_leaf_at-requires-in-Many-clause-leaf
visit_at-visit_leaf_at-requires-in-Many-clause-leaf g t c = leaf_routes c.in-Many.field-0.value c.args.place (branches c.row.inside.nodes) (sym (ap branches c.in-Many.is))

-- the same in tiers
no_routes_of_many : (g : _) (t : _) (c : visit_at-After-visit_leaf_at-in-Many g t) → (node_at c.args.row.now c.args.place).routes ≡ []
no_routes_of_many g t c = leaf_routes c.in-Many.field-0.value c.args.place c.args.row.now (sym (ap branches c.in-Many.is) ∙ c.row.view_is)

pub visit_at-returns-in-Many-clause-lasting : goal.visit_at-returns-in-Many-clause-lasting
visit_at-returns-in-Many-clause-lasting g t c =
    let none = no_routes_of_many g t (goal.at.visit_at-returns-in-Many-clause-lasting g t c).After-visit_leaf_at-in-Many in
    c.visit_leaf_at-in-Many.ensures.behind.lasting ∙ sym none

pub visit_at-returns-in-Many-clause-best : goal.visit_at-returns-in-Many-clause-best
visit_at-returns-in-Many-clause-best g t c =
    let none = no_routes_of_many g t (goal.at.visit_at-returns-in-Many-clause-best g t c).After-visit_leaf_at-in-Many in
    let o = offered c.args.offer.now in
    let At : List Route → Type 0 = λ rs. IfOk c.visit_leaf_at-in-Many.result (λ b. b ≡ least (new_matches o c.args.slots.now ([] ∷ seen o rs))) in
    subst At (sym none) c.visit_leaf_at-in-Many.ensures.best

pub visit_at-returns-in-Many-clause-grows : goal.visit_at-returns-in-Many-clause-grows
visit_at-returns-in-Many-clause-grows g t c =
    let none = no_routes_of_many g t (goal.at.visit_at-returns-in-Many-clause-grows g t c).After-visit_leaf_at-in-Many in
    let o = offered c.args.offer.now in
    let now : List Route = (node_at c.visit_leaf_at-in-Many.new.row c.args.place).routes in
    let At : List Route → Type 0 = λ rs. IfOk c.visit_leaf_at-in-Many.result (λ b. b ≡ None → Grows o c.args.slots.now (growing o c.args.slots.now) rs now) in
    subst At (sym none) c.visit_leaf_at-in-Many.ensures.grows

pub visit_at-returns-in-Many-clause-counted : goal.visit_at-returns-in-Many-clause-counted
visit_at-returns-in-Many-clause-counted g t c =
    let none = no_routes_of_many g t (goal.at.visit_at-returns-in-Many-clause-counted g t c).After-visit_leaf_at-in-Many in
    omega (arith, c.visit_leaf_at-in-Many.ensures.counted, ap (λ (rs : List Route). length rs) none)

pub visit_at-visit_node-requires : goal.visit_at-visit_node-requires
visit_at-visit_node-requires g t c =
    let a = c.args in
    let o = offered a.offer.now in
    let items = c.deref_mut.result.now.items in
    let node : Branch = c.index_mut-node.result.now in
    let same : items ≡ a.row.now = ap (λ (v : VecDeque Node Global). v.items) c.deref_mut.ensures.value ∙ sym (ap branches c.in-Mixed.is) ∙ c.row.view_is in
    let within : a.place < length items = omega (arith, c.requires.within, ap (λ (xs : List Branch). length xs) same) in
    let is : node ≡ node_at a.row.now a.place = c.index_mut-node.ensures.value ∙ get_or_default items a.place node (leaf 0) within ∙ ap (λ (xs : List Branch). node_at xs a.place) same in
    let at : (P : Branch → Type 0) → P (node_at a.row.now a.place) → P node = λ P p. subst P (sym is) p in
    λ κs h. (
      omega (arith, c.decreases, ap size-Node is),
      (
        h,
        (
          c.requires.can,
          (
            c.requires.outside,
            (
              c.requires.free,
              (
                c.requires.wanted,
                (at (λ x. AreOrdered ([] ∷ x.routes)) c.requires.ordered, (at (λ x. LeadOn o a.slots.now x.routes) c.requires.lead, at (λ x. AreOpen a.slots.now x.routes) c.requires.free_left)),
              ),
            ),
          ),
        ),
      ),
    )

pub visit_node-visit_rows-requires : goal.visit_node-visit_rows-requires
visit_node-visit_rows-requires g t c =
    let a = c.args in
    let o = offered a.offer.now in
    let rows = c.in-Inner.rows.value.items in
    let same : rows ≡ c.deref_mut.result.now.items = ap (λ (v : Vec (List Branch) Global). v.items) (sym c.deref_mut.ensures.value) in
    let routes_are : rows_routes 0 rows ≡ a.node.now.routes = sym (ap (λ (shape : Shape). rows_routes 0 (rows_behind shape)) c.in-Inner.is) ∙ ap (λ (x : Branch). x.routes) c.node.view_is in
    let few : length (rows_behind c.node.inside.shape) ≤ 8 = c.node.invariant in
    let count = ap (λ (shape : Shape). length (rows_behind shape)) c.in-Inner.is in
    let Lead : List Route → Type 0 = λ rs. LeadOn o a.slots.now rs in
    let smaller = rows_fall rows in
    let weight = node_weighs a.node.now in
    let deep = ap (most size-Row) same in
    let at : (P : List (List Branch) → Type 0) → P rows → P c.deref_mut.result.now.items = λ P p. subst P same p in
    λ κs h. (
      omega (arith, c.decreases, ap (λ (rs : List Route). length rs) routes_are),
      (
        h,
        (
          c.requires.can,
          (
            c.requires.outside,
            (
              c.requires.free,
              (
                c.requires.wanted,
                (
                  at (λ xs. length xs ≤ 8) (omega arith),
                  (
                    at (λ xs. AreSound xs) (rows_sound 0 rows (subst AreOrdered (sym routes_are) c.requires.ordered.1)),
                    (at (λ xs. Lead (rows_routes 0 xs)) (subst Lead (sym routes_are) c.requires.lead), at (λ xs. AreOpen a.slots.now (rows_routes 0 xs)) (subst (AreOpen a.slots.now) (sym routes_are) c.requires.free_left)),
                  ),
                ),
              ),
            ),
          ),
        ),
      ),
    )

pub visit_node-returns-in-Inner-clause-ordered : goal.visit_node-returns-in-Inner-clause-ordered
visit_node-returns-in-Inner-clause-ordered g t c = rows_ordered_behind 0 c.visit_rows.new.rows.items c.visit_rows.ensures.sound

pub visit_nodes-returns-in_err-found : goal.visit_nodes-returns-in_err-found
visit_nodes-returns-in_err-found g t c =
    let a = c.args in
    let o = offered a.offer.now in
    let node : Branch = node_at c.loop-place.row c.loop-place.place in
    let now : Branch = node_at c.visit_at.new.row c.loop-place.place in
    let within : c.loop-place.place < length c.loop-place.row = omega (arith, c.loop-place-test.true, c.len-end.ensures, c.loop-place.invariant.walked.long) in
    let at = reach c.requires.sound c.requires.lead c.requires.free_left c.loop-place.invariant.walked within (get_or_default c.loop-place.row c.loop-place.place (leaf 0) (node_at c.loop-place.row c.loop-place.place) within) in
    let e = c.visit_at.ensures in
    let longer : with_number a.slots.now a.pattern node.number ≡ c.with-longer.result = ap (with_number a.slots.now a.pattern) (sym c.number_at.ensures) ∙ sym c.with-longer.ensures in
    let opens = open_now a.slots.now a.pattern node now e.number at.opened (subst (λ (s : Assignment). AreOpen s now.routes) (sym longer) e.free_left) in
    let stepped = steps_behind o a.slots.now c.with-longer.result a.pattern node a.wanted.now c.loop-place.steps c.visit_at.new.steps at.leads.free at.leads.below c.requires.wanted longer e.stepped in
    let left = stop_at now c.visit_at.new.count c.visit_at.new.steps c.requires.sound c.requires.lead c.requires.free_left c.loop-place.invariant.walked at (stays_node o.number a.pattern node now at.leads.less e.number e.ordered e.lasting) opens e.counted stepped in
    let left_row = subst (λ (xs : List Branch). Stopped o a.slots.now a.pattern a.row.now xs a.count.now c.visit_at.new.count a.steps.now c.visit_at.new.steps) (sym e.placed) left in
    record {
      sound = left_row.sound;
      free_left = left_row.free_left;
      numbers = left_row.numbers;
      lasting = left_row.lasting;
      best = no_value (λ b. b ≡ least (new_matches o a.slots.now (seen o (row_routes a.pattern a.row.now)))) _ c.from_residual.result c.from_residual.ensures.1;
      grows = no_value (λ b. b ≡ None → Grows o a.slots.now [] (row_routes a.pattern a.row.now) (row_routes a.pattern c.visit_at.new.row)) _ c.from_residual.result c.from_residual.ensures.1;
      earned = no_value (λ b. AreEarned o a.slots.now (row_routes a.pattern c.visit_at.new.row)) _ c.from_residual.result c.from_residual.ensures.1;
      counted = left_row.counted;
      stepped = left_row.stepped;
    }

-- the number was added to routes of the row only where some pattern may take it
earned_now : (g : _) (t : _) (c : visit_nodes-In_ok-found g t) → AreEarned (offered c.args.offer.now) c.args.slots.now (row_routes c.args.pattern c.visit_at.new.row)
earned_now g t c =
    let a = c.args in
    let o = offered a.offer.now in
    let i : ℕ = c.loop-place.place in
    let node : Branch = node_at c.loop-place.row i in
    let now : Branch = node_at c.visit_at.new.row i in
    let within : i < length c.loop-place.row = omega (arith, c.loop-place-test.true, c.len-end.ensures, c.loop-place.invariant.walked.long) in
    let at = reach c.requires.sound c.requires.lead c.requires.free_left c.loop-place.invariant.walked within (get_or_default c.loop-place.row i (leaf 0) node within) in
    let e = c.visit_at.ensures in
    let longer : with_number a.slots.now a.pattern node.number ≡ c.with-longer.result = ap (with_number a.slots.now a.pattern) (sym c.number_at.ensures) ∙ sym c.with-longer.ensures in
    let here = earned_node o a.slots.now c.with-longer.result a.pattern node now c.in_ok-found.found e.number longer at.leads.lead c.in_ok-found.ensures.best c.in_ok-found.ensures.grows in
    subst (λ (xs : List Branch). AreEarned o a.slots.now (row_routes a.pattern xs)) (sym e.placed) (all_set (IsEarned o a.slots.now) a.pattern c.loop-place.row i now within c.loop-place.invariant.earned here)

pub visit_nodes-returns-then-is_some : goal.visit_nodes-returns-then-is_some
visit_nodes-returns-then-is_some g t c =
    let a = c.args in
    let o = offered a.offer.now in
    let node : Branch = node_at c.loop-place.row c.loop-place.place in
    let now : Branch = node_at c.visit_at.new.row c.loop-place.place in
    let within : c.loop-place.place < length c.loop-place.row = omega (arith, c.loop-place-test.true, c.len-end.ensures, c.loop-place.invariant.walked.long) in
    let at = reach c.requires.sound c.requires.lead c.requires.free_left c.loop-place.invariant.walked within (get_or_default c.loop-place.row c.loop-place.place (leaf 0) (node_at c.loop-place.row c.loop-place.place) within) in
    let e = c.visit_at.ensures in
    let longer : with_number a.slots.now a.pattern node.number ≡ c.with-longer.result = ap (with_number a.slots.now a.pattern) (sym c.number_at.ensures) ∙ sym c.with-longer.ensures in
    let opens = open_now a.slots.now a.pattern node now e.number at.opened (subst (λ (s : Assignment). AreOpen s now.routes) (sym longer) e.free_left) in
    let stepped = steps_behind o a.slots.now c.with-longer.result a.pattern node a.wanted.now c.loop-place.steps c.visit_at.new.steps at.leads.free at.leads.below c.requires.wanted longer e.stepped in
    let left = stop_at now c.visit_at.new.count c.visit_at.new.steps c.requires.sound c.requires.lead c.requires.free_left c.loop-place.invariant.walked at (stays_node o.number a.pattern node now at.leads.less e.number e.ordered e.lasting) opens e.counted stepped in
    let some = some_of c.in_ok-found.found (sym c.is_some.ensures ∙ c.if-is_some.true) in
    let seen_too = c.loop-place.invariant.seen within in
    let best = c.in_ok-found.ensures.best ∙ ap (λ (s : Assignment). least (new_matches o s ([] ∷ seen o node.routes))) (sym longer) ∙ ap least (sym (matches_node o a.slots.now a.pattern node seen_too)) in
    let left_row = subst (λ (xs : List Branch). Stopped o a.slots.now a.pattern a.row.now xs a.count.now c.visit_at.new.count a.steps.now c.visit_at.new.steps) (sym e.placed) left in
    record {
      sound = left_row.sound;
      free_left = left_row.free_left;
      numbers = left_row.numbers;
      lasting = left_row.lasting;
      best = found_first o a.slots.now a.pattern a.row.now c.loop-place.row c.loop-place.place node node c.in_ok-found.found some.0 at.before at.is c.requires.sound c.requires.lead c.loop-place.invariant.walked.passed some.1 best;
      grows = λ none. absurd (let e = sym some.1 ∙ none in cc);
      earned = earned_now g t (goal.at.visit_nodes-returns-then-is_some g t c).In_ok-found;
      counted = left_row.counted;
      stepped = left_row.stepped;
    }

pub visit_nodes-next_place-place-requires-in-loop-place-clause-offered : goal.visit_nodes-next_place-place-requires-in-loop-place-clause-offered
visit_nodes-next_place-place-requires-in-loop-place-clause-offered g t c =
    let a = c.args in
    let i : ℕ = c.loop-place.place in
    let before = c.loop-place.row in
    let now = c.visit_at.new.row in
    let walked = c.loop-place.invariant.walked in
    let placed = c.visit_at.ensures.placed in
    let long : length now ≡ length a.row.now = ap (λ (xs : List Branch). length xs) placed ∙ length-set before i (node_at now i) ∙ walked.long in
    let left : drop (i + 1) now ≡ drop (i + 1) a.row.now = ap (drop (i + 1)) placed ∙ drop-set-lt (i + 1) before i (node_at now i) (omega arith) ∙ left_more before a.row.now i walked.left in
    walked_offers a.row.now now (i + 1) c.requires.lead long left

-- the numbers of the row are as they were
numbers_now : (g : _) (t : _) (c : visit_nodes-After-visit_at g t) → map (λ node. node.number) c.visit_at.new.row ≡ map (λ node. node.number) c.args.row.now
numbers_now g t c =
    let i : ℕ = c.loop-place.place in
    let e = c.visit_at.ensures in
    ap (λ (xs : List Branch). map (λ (node : Branch). node.number) xs) e.placed ∙ numbers_set c.loop-place.row i (node_at c.visit_at.new.row i) e.number ∙ c.loop-place.invariant.numbers

pub visit_nodes-next_place-place-requires-in-loop-place-clause-rise : goal.visit_nodes-next_place-place-requires-in-loop-place-clause-rise
visit_nodes-next_place-place-requires-in-loop-place-clause-rise g t c =
    let at = (goal.at.visit_nodes-next_place-place-requires-in-loop-place-clause-rise g t c).After-visit_at in
    subst Rise (sym (numbers_now g t at)) c.requires.sound.rise

pub visit_nodes-next_place-place-requires-in-loop-place-clause-left : goal.visit_nodes-next_place-place-requires-in-loop-place-clause-left
visit_nodes-next_place-place-requires-in-loop-place-clause-left g t c =
    let a = c.args in
    let i : ℕ = c.loop-place.place in
    let before = c.loop-place.invariant in
    let within : i < length c.loop-place.row = omega (arith, c.loop-place-test.true, c.len-end.ensures, before.walked.long) in
    let e = c.visit_at.ensures in
    let same = ap (λ (xs : List Branch). map (λ (node : Branch). node.number) xs) e.placed ∙ numbers_set c.loop-place.row i (node_at c.visit_at.new.row i) e.number in
    left_alike (offered a.offer.now) a.slots.now a.pattern c.loop-place.row c.visit_at.new.row (i + 1) same c.loop-place.left (before.left within)

pub visit_nodes-loop-place-preserved : goal.visit_nodes-loop-place-preserved
visit_nodes-loop-place-preserved g t c =
    let a = c.args in
    let o = offered a.offer.now in
    let i : ℕ = c.loop-place.place in
    let node : Branch = node_at c.loop-place.row i in
    let now : Branch = node_at c.visit_at.new.row i in
    let walked = c.loop-place.invariant.walked in
    let within : i < length c.loop-place.row = omega (arith, c.loop-place-test.true, c.len-end.ensures, walked.long) in
    let at = reach c.requires.sound c.requires.lead c.requires.free_left walked within (get_or_default c.loop-place.row i (leaf 0) node within) in
    let e = c.visit_at.ensures in
    let f = c.in_ok-found.ensures in
    let longer : with_number a.slots.now a.pattern node.number ≡ c.with-longer.result = ap (with_number a.slots.now a.pattern) (sym c.number_at.ensures) ∙ sym c.with-longer.ensures in
    let none = none_of c.in_ok-found.found (sym c.is_some.ensures ∙ c.if-is_some.false) in
    let grown = subst (λ (s : Assignment). Grows o s (growing o s) node.routes now.routes) (sym longer) (f.grows none) in
    let no_match = ap (λ (s : Assignment). least (new_matches o s ([] ∷ seen o node.routes))) longer ∙ sym f.best ∙ none in
    let here = passed_seen o a.slots.now a.pattern node now (c.loop-place.invariant.seen within) at.leads.less e.number e.ordered e.lasting grown no_match in
    let opens = open_now a.slots.now a.pattern node now e.number at.opened (subst (λ (s : Assignment). AreOpen s now.routes) (sym longer) e.free_left) in
    let stepped = steps_behind o a.slots.now c.with-longer.result a.pattern node a.wanted.now c.loop-place.steps c.visit_at.new.steps at.leads.free at.leads.below c.requires.wanted longer e.stepped in
    let Walks : List Branch → Type 0 = λ xs. Walked o a.slots.now a.pattern a.row.now xs a.count.now c.visit_at.new.count a.steps.now c.visit_at.new.steps (i + 1) in
    let on = subst Walks (sym e.placed) (go_on now c.visit_at.new.count c.visit_at.new.steps walked at here opens e.counted stepped) in
    let p = c.next_place-place-in-loop-place.ensures in
    let steps : ℕ = c.next_place-place-in-loop-place.new.steps in
    let wanted = subst (λ (ps : List ℕ). 1 ≤ length ps) c.requires.wanted c.requires.some in
    record {
      walked = walk_to o a.slots.now a.pattern a.row.now c.visit_at.new.row a.count.now c.visit_at.new.count a.steps.now c.requires.sound c.requires.lead c.requires.free_left wanted c.visit_at.new.steps steps (i + 1) c.next_place-place-in-loop-place.result p.from (omega (arith, p.within, on.long)) p.counted p.skipped on;
      seen = p.seen;
      asked = p.asked;
      numbers = numbers_now g t (goal.at.visit_nodes-loop-place-preserved g t c).After-visit_at;
      left = p.left;
      earned = earned_now g t (goal.at.visit_nodes-loop-place-preserved g t c).In_ok-found;
    }

pub visit_each-best_match-best-requires-clause-may : goal.visit_each-best_match-best-requires-clause-may
visit_each-best_match-best-requires-clause-may g t c =
    let a = c.args in
    let o = offered a.offer.now in
    subst (λ (ps : List ℕ). AllByRecursion (MayTake o a.slots.now) ps) (sym c.requires.able) (all_take o a.slots.now (places 0 o.definition.patterns))

pub visit_each-visit_row-requires : goal.visit_each-visit_row-requires
visit_each-visit_row-requires g t c =
    let a = c.args in
    let o = offered a.offer.now in
    let i : ℕ = c.loop-place.place in
    let d = c.index-rows-place.result in
    let first = a.rows.now in
    let items = c.loop-place.rows in
    let row = get_or items i d in
    let is : row ≡ get_or first i d = left_item items first i d c.loop-place.invariant.left in
    let in_rows : i < length first = omega (arith, c.loop-place-test.true, c.loop-place.auto.rows) in
    let here = at_most size-Row first i d in_rows in
    let weight = ap size-Row is in
    let lead = lead_row o a.slots.now 0 first i d in_rows c.requires.lead in
    let opens = all_rows (IsOpen a.slots.now) 0 first i d in_rows c.requires.free_left in
    let Lead : ℕ → Type 0 = λ k. LeadOn o a.slots.now (row_routes k (get_or first i d)) in
    let Open : ℕ → Type 0 = λ k. AreOpen a.slots.now (row_routes k (get_or first i d)) in
    λ κs h. (
      omega (arith, c.decreases),
      (
        h,
        (
          c.requires.can,
          (
            c.requires.able,
            (
              subst (λ (xs : List Branch). IsSoundRow xs) (sym is) (all_at IsSoundRow first i d in_rows c.requires.sound),
              (subst (λ (xs : List Branch). LeadOn o a.slots.now (row_routes i xs)) (sym is) (subst Lead (zero-add i) lead), subst (λ (xs : List Branch). AreOpen a.slots.now (row_routes i xs)) (sym is) (subst Open (zero-add i) opens)),
            ),
          ),
        ),
      ),
    )

pub visit_each-loop-place-init : goal.visit_each-loop-place-init
visit_each-loop-place-init g t c =
    let a = c.args in
    let o = offered a.offer.now in
    record {
      sound = tt;
      less = tt;
      lasts = refl;
      opens = tt;
      left = refl;
      best = c.best_match-best.ensures ∙ ap (λ (ps : List ℕ). least (matches_of o a.slots.now ps)) c.requires.able ∙ ap least (sym (append-nil (matches_at o a.slots.now)));
      grows = λ none. grows_none o a.slots.now;
      earned = tt;
      counted = refl;
      stepped = omega arith;
    }

pub visit_each-loop-place-preserved : goal.visit_each-loop-place-preserved
visit_each-loop-place-preserved g t c =
    let a = c.args in
    let o = offered a.offer.now in
    let i : ℕ = c.loop-place.place in
    let d = c.index-rows-place.result in
    let first = a.rows.now in
    let items = c.loop-place.rows in
    let row = get_or items i d in
    let is : row ≡ get_or first i d = left_item items first i d c.loop-place.invariant.left in
    let in_rows : i < length first = omega (arith, c.loop-place-test.true, c.loop-place.auto.rows) in
    let in_items : i < length items = omega (arith, c.loop-place-test.true, c.loop-place.auto.rows) in
    let now = c.visit_row.new.row in
    let e = c.in_ok-found.ensures in
    let counts = counts_rows_on first items i row now d in_rows in_items is in
    let tried_on = tries_rows_on first items i row now d in_rows in_items is o a.slots.now in
    let lead = lead_row o a.slots.now 0 first i d in_rows c.requires.lead in
    let Lead : ℕ → Type 0 = λ k. LeadOn o a.slots.now (row_routes k (get_or first i d)) in
    let lead_here = subst (λ (xs : List Branch). LeadOn o a.slots.now (row_routes i xs)) (sym is) (subst Lead (zero-add i) lead) in
    record {
      sound = (sound_on first items i row now d in_rows in_items is c.loop-place.invariant.sound e.sound);
      less = (less_on first items i row now d in_rows in_items is o.number c.loop-place.invariant.less (subst (λ (ns : List ℕ). AllByRecursion (λ m. m < o.number) ns) (sym e.numbers) (numbers_below o a.slots.now i row lead_here)));
      lasts = (lasts_on first items i row now d in_rows in_items is o.number c.loop-place.invariant.lasts e.lasting);
      opens = (subst (AreOpen a.slots.now) (sym (now_routes first items i row now d in_rows in_items is)) (all_both (IsOpen a.slots.now) (rows_routes 0 (take i items)) (row_routes i now) c.loop-place.invariant.opens e.free_left));
      left = drop-set-lt (i + 1) items i now (omega arith) ∙ left_more items first i c.loop-place.invariant.left;
      best = c.better_found-best.ensures ∙ best_on first items i row now d in_rows in_items is o a.slots.now c.loop-place.best c.in_ok-found.found c.loop-place.invariant.best e.best;
      grows = λ none.
          let both = lesser_none c.loop-place.best c.in_ok-found.found (sym c.better_found-best.ensures ∙ none) in
          (grows_on first items i row now d in_rows in_items is o a.slots.now (c.loop-place.invariant.grows both.0) (e.grows both.1));
      earned = subst (AreEarned o a.slots.now) (sym (now_routes first items i row now d in_rows in_items is)) (all_both (IsEarned o a.slots.now) (rows_routes 0 (take i items)) (row_routes i now) c.loop-place.invariant.earned e.earned);
      counted = omega (arith, c.loop-place.invariant.counted, e.counted, counts.0, counts.1);
      stepped = omega (arith, c.loop-place.invariant.stepped, e.stepped, tried_on);
    }

pub visit_each-returns : goal.visit_each-returns
visit_each-returns g t c =
    let a = c.args in
    let o = offered a.offer.now in
    let items = c.loop-place.rows in
    let i : ℕ = c.loop-place.place in
    let B = a.rows.now in
    let R = items in
    let all : take i B ≡ B = take_all i B (omega (arith, c.loop-place-test.false, c.loop-place.auto.rows)) in
    let all' : take i R ≡ R = take_all i R (omega (arith, c.loop-place-test.false, c.loop-place.auto.rows)) in
    let old_routes : rows_routes 0 (take i B) ≡ rows_routes 0 B = ap (rows_routes 0) all in
    let now_routes' : rows_routes 0 (take i R) ≡ rows_routes 0 R = ap (rows_routes 0) all' in
    let inv = c.loop-place.invariant in
    record {
      sound = subst AreSound all' inv.sound;
      less = subst (AreLess o.number) all' inv.less;
      free_left = subst (AreOpen a.slots.now) now_routes' inv.opens;
      lasting = subst (λ (rs : List Route). Lasts o.number rs (rows_routes 0 R)) old_routes (subst (λ (rs : List Route). Lasts o.number (rows_routes 0 (take i B)) rs) now_routes' inv.lasts);
      best = inv.best ∙ ap (λ (rs : List Route). least (new_matches o a.slots.now ([] ∷ seen o rs))) old_routes;
      grows = λ none. subst (λ (rs : List Route). Grows o a.slots.now [] rs (rows_routes 0 R)) old_routes (subst (λ (rs : List Route). Grows o a.slots.now [] (rows_routes 0 (take i B)) rs) now_routes' (inv.grows none));
      earned = subst (AreEarned o a.slots.now) now_routes' inv.earned;
      counted = omega (arith, inv.counted, ap (λ (rs : List Route). length rs) old_routes, ap (λ (rs : List Route). length rs) now_routes');
      stepped = omega (arith, inv.stepped, ap (tries_behind o a.slots.now) old_routes);
    }

pub visit_each-returns-in_err-found : goal.visit_each-returns-in_err-found
visit_each-returns-in_err-found g t c =
    let a = c.args in
    let i : ℕ = c.loop-place.place in
    let d = c.index-rows-place.result in
    let first = a.rows.now in
    let items = c.loop-place.rows in
    let row = get_or items i d in
    let is : row ≡ get_or first i d = left_item items first i d c.loop-place.invariant.left in
    let in_rows : i < length first = omega (arith, c.loop-place-test.true, c.loop-place.auto.rows) in
    let in_items : i < length items = omega (arith, c.loop-place-test.true, c.loop-place.auto.rows) in
    let now = c.visit_row.new.row in
    let left = c.loop-place.invariant.left in
    let o = offered a.offer.now in
    let before_is = ap (λ (rs : List Route). length rs) (before_all first items i row now d in_rows in_items is) ∙ length-append (rows_routes 0 (take i first)) (row_routes i row ++ rows_routes (i + 1) (drop (i + 1) first)) in
    let now_is = ap (λ (rs : List Route). length rs) (now_all first items i row now d in_rows in_items is left) ∙ length-append (rows_routes 0 (take i items)) (row_routes i now ++ rows_routes (i + 1) (drop (i + 1) first)) in
    let before_rest = length-append (row_routes i row) (rows_routes (i + 1) (drop (i + 1) first)) in
    let now_rest = length-append (row_routes i now) (rows_routes (i + 1) (drop (i + 1) first)) in
    record {
      sound = sound_all first items i row now d in_rows in_items is left c.requires.sound c.loop-place.invariant.sound c.visit_row.ensures.sound;
      less = no_ok (AreLess o.number (set items i now)) _ c.from_residual.result c.from_residual.ensures.1;
      free_left = subst (AreOpen a.slots.now) (sym (now_all first items i row now d in_rows in_items is left))
          (all_both (IsOpen a.slots.now) (rows_routes 0 (take i items)) (row_routes i now ++ rows_routes (i + 1) (drop (i + 1) first)) c.loop-place.invariant.opens
          (all_both (IsOpen a.slots.now) (row_routes i now) (rows_routes (i + 1) (drop (i + 1) first)) c.visit_row.ensures.free_left (all_rows_drop (IsOpen a.slots.now) first (i + 1) c.requires.free_left)));
      lasting = lasts_all first items i row now d in_rows in_items is o a.slots.now left c.requires.lead c.loop-place.invariant.lasts c.visit_row.ensures.lasting;
      best = no_value (λ b. b ≡ least (new_matches o a.slots.now ([] ∷ seen o (rows_routes 0 first)))) _ c.from_residual.result c.from_residual.ensures.1;
      grows = no_value (λ b. b ≡ None → Grows o a.slots.now [] (rows_routes 0 first) (rows_routes 0 (set items i now))) _ c.from_residual.result c.from_residual.ensures.1;
      earned = no_value (λ b. AreEarned o a.slots.now (rows_routes 0 (set items i now))) _ c.from_residual.result c.from_residual.ensures.1;
      counted = omega (arith, c.loop-place.invariant.counted, c.visit_row.ensures.counted);
      stepped = omega (arith, c.loop-place.invariant.stepped, c.visit_row.ensures.stepped, tries_rows_most first items i row now d in_rows in_items is o a.slots.now);
    }

pub visit_rows-returns-then-len-eq0-clause-best : goal.visit_rows-returns-then-len-eq0-clause-best
visit_rows-returns-then-len-eq0-clause-best g t c =
    let a = c.args in
    let o = offered a.offer.now in
    let none = sym (c.takers-able.ensures.answer ∙ c.requires.wanted) ∙ nil_from_length c.takers-able.result (sym c.len.ensures.count ∙ c.if-len-eq0.true) in
    sym (nothing_here o a.slots.now (rows_routes 0 a.rows.now.items) none c.requires.lead)

pub visit_rows-returns-then-len-eq0-clause-grows : goal.visit_rows-returns-then-len-eq0-clause-grows
visit_rows-returns-then-len-eq0-clause-grows g t c =
    let a = c.args in
    let o = offered a.offer.now in
    let none = sym (c.takers-able.ensures.answer ∙ c.requires.wanted) ∙ nil_from_length c.takers-able.result (sym c.len.ensures.count ∙ c.if-len-eq0.true) in
    λ e. nothing_grows o a.slots.now (rows_routes 0 a.rows.now.items) none c.requires.lead

pub visit_rows-returns-then-len-eq0-clause-earned : goal.visit_rows-returns-then-len-eq0-clause-earned
visit_rows-returns-then-len-eq0-clause-earned g t c = λ some. absurd (some refl)

pub visit_rows-returns-then-len-eq0-clause-lasting : goal.visit_rows-returns-then-len-eq0-clause-lasting
visit_rows-returns-then-len-eq0-clause-lasting g t c = lead_lasts (offered c.args.offer.now) c.args.slots.now (rows_routes 0 c.args.rows.now.items) c.requires.lead

pub visit_rows-visit_each-requires : goal.visit_rows-visit_each-requires
visit_rows-visit_each-requires g t c =
    let a = c.args in
    let o = offered a.offer.now in
    let same = sym c.deref_mut.ensures.value in
    let deep = ap (most size-Row) same in
    let at : (P : List (List Branch) → Type 0) → P a.rows.now.items → P c.deref_mut.result.now = λ P p. subst P same p in
    λ κs h. (
      omega (arith, c.decreases),
      (
        h,
        (
          c.requires.can,
          (
            c.takers-able.ensures.answer ∙ c.requires.wanted,
            (
              at (λ xs. length xs ≤ 8) c.requires.few,
              (
                at (λ xs. AreSound xs) c.requires.sound,
                (at (λ xs. LeadOn o a.slots.now (rows_routes 0 xs)) c.requires.lead, at (λ xs. AreOpen a.slots.now (rows_routes 0 xs)) c.requires.free_left),
              ),
            ),
          ),
        ),
      ),
    )

-- what the visit of each row leaves, as the vector of them has it
record Visited (o : Offered) (slots : Assignment) (before after now : List (List Branch)) (count_before count steps_before steps wanted : ℕ) : Type 0 where
  pub is : now ≡ after
  pub few : length now ≤ 8
  pub sound : AreSound now
  pub free_left : AreOpen slots (rows_routes 0 now)
  pub lasting : Lasts o.number (rows_routes 0 before) (rows_routes 0 now)
  pub counted : count + length (rows_routes 0 before) ≡ count_before + length (rows_routes 0 now)
  pub stepped : steps ≤ steps_before + (wanted + tries_behind o slots (rows_routes 0 before))

visited : (g : _) (t : _) (c : visit_rows-After-visit_each g t) → Visited (offered c.args.offer.now) c.args.slots.now c.args.rows.now.items c.visit_each.new.rows (take c.args.rows.now.len (c.visit_each.new.rows ++ drop (length c.visit_each.new.rows) c.args.rows.now.items)) c.args.count.now c.visit_each.new.count c.args.steps.now c.visit_each.new.steps (length c.args.wanted.now)
visited g t c =
    let a = c.args in
    let o = offered a.offer.now in
    let same = c.deref_mut.ensures.value in
    let after = c.visit_each.new.rows in
    let is = take_at after (drop (length after) a.rows.now.items) a.rows.now.len (omega (arith, c.visit_each.auto.rows, c.deref_mut.ensures.len)) in
    let mid : (P : List (List Branch) → Type 0) → P after → P (take a.rows.now.len (after ++ drop (length after) a.rows.now.items)) = λ P p. subst P (sym is) p in
    let old : (P : List (List Branch) → Type 0) → P c.deref_mut.result.now → P a.rows.now.items = λ P p. subst P same p in
    let e = c.visit_each.ensures in
    let routes : List (List Branch) → List Route = λ xs. rows_routes 0 xs in
    let tries = ap (λ (xs : List (List Branch)). tries_behind o a.slots.now (routes xs)) same in
    record {
      is = is;
      few = mid (λ xs. length xs ≤ 8) (omega (arith, c.visit_each.auto.rows, c.deref_mut.ensures.len, c.requires.few, ap (λ (xs : List (List Branch)). length xs) same));
      sound = mid (λ xs. AreSound xs) e.sound;
      free_left = mid (λ xs. AreOpen a.slots.now (routes xs)) e.free_left;
      lasting = mid (λ xs. Lasts o.number (routes a.rows.now.items) (routes xs)) (old (λ xs. Lasts o.number (routes xs) (routes after)) e.lasting);
      counted = mid (λ xs. c.visit_each.new.count + length (routes a.rows.now.items) ≡ a.count.now + length (routes xs)) (old (λ xs. c.visit_each.new.count + length (routes xs) ≡ a.count.now + length (routes after)) e.counted);
      stepped = omega (arith, e.stepped, c.takers-able.ensures.counted);
    }

-- the least match of those before the path's own nodes
visited_best : (g : _) (t : _) (c : visit_rows-In_ok-best g t) → c.in_ok-best.best ≡ least (new_matches (offered c.args.offer.now) c.args.slots.now ([] ∷ seen (offered c.args.offer.now) (rows_routes 0 c.args.rows.now.items)))
visited_best g t c =
    let o = offered c.args.offer.now in
    subst (λ (xs : List (List Branch)). c.in_ok-best.best ≡ least (new_matches o c.args.slots.now ([] ∷ seen o (rows_routes 0 xs)))) c.deref_mut.ensures.value c.in_ok-best.ensures.best

pub visit_rows-returns-in_err-best : goal.visit_rows-returns-in_err-best
visit_rows-returns-in_err-best g t c =
    let a = c.args in
    let o = offered a.offer.now in
    let routes : List (List Branch) → List Route = λ xs. rows_routes 0 xs in
    let after = c.visit_each.new.rows in
    let v = visited g t (goal.at.visit_rows-returns-in_err-best g t c).After-visit_each in
    record {
      few = v.few;
      sound = v.sound;
      free_left = v.free_left;
      lasting = v.lasting;
      best = no_value (λ b. b ≡ least (new_matches o a.slots.now ([] ∷ seen o (routes a.rows.now.items)))) _ c.from_residual.result c.from_residual.ensures.1;
      grows = no_value (λ b. b ≡ None → Grows o a.slots.now (growing o a.slots.now) (routes a.rows.now.items) (routes (take a.rows.now.len (after ++ drop (length after) a.rows.now.items)))) _ c.from_residual.result c.from_residual.ensures.1;
      earned = no_value (λ b. b ≢ None → AreEarned o a.slots.now (routes (take a.rows.now.len (after ++ drop (length after) a.rows.now.items)))) _ c.from_residual.result c.from_residual.ensures.1;
      counted = v.counted;
      stepped = v.stepped;
    }

pub visit_rows-returns-then-is_some : goal.visit_rows-returns-then-is_some
visit_rows-returns-then-is_some g t c =
    let v = visited g t (goal.at.visit_rows-returns-then-is_some g t c).After-visit_each in
    let some = some_of c.in_ok-best.best (sym c.is_some.ensures ∙ c.if-is_some.true) in
    record {
      few = v.few;
      sound = v.sound;
      free_left = v.free_left;
      lasting = v.lasting;
      best = visited_best g t (goal.at.visit_rows-returns-then-is_some g t c).In_ok-best;
      grows = λ none. absurd (let k = sym some.1 ∙ none in cc);
      earned = λ _. subst (λ (xs : List (List Branch)). AreEarned (offered c.args.offer.now) c.args.slots.now (rows_routes 0 xs)) (sym v.is) c.in_ok-best.ensures.earned;
      counted = v.counted;
      stepped = v.stepped;
    }

pub visit_rows-begin-requires : goal.visit_rows-begin-requires
visit_rows-begin-requires g t c =
    let v = visited g t (goal.at.visit_rows-begin-requires g t c).After-visit_each in
    record {
      can = c.requires.can;
      able = c.takers-able.ensures.answer ∙ c.requires.wanted;
      few = v.few;
      sound = v.sound;
      less = subst (λ (xs : List (List Branch)). AreLess c.args.offer.now.number xs) (sym v.is) c.in_ok-best.ensures.less;
      free_left = v.free_left;
    }

pub visit_rows-returns-then-not-begin : goal.visit_rows-returns-then-not-begin
visit_rows-returns-then-not-begin g t c =
    let v = visited g t (goal.at.visit_rows-returns-then-not-begin g t c).After-visit_each in
    let b = c.begin.ensures in
    record {
      few = b.few;
      sound = b.sound;
      free_left = b.free_left;
      lasting = b.lasting ∙ v.lasting;
      best = tt;
      grows = tt;
      earned = tt;
      counted = omega (arith, v.counted, b.counted);
      stepped = v.stepped;
    }

pub visit_rows-returns : goal.visit_rows-returns
visit_rows-returns g t c =
    let a = c.args in
    let o = offered a.offer.now in
    let routes : List (List Branch) → List Route = λ xs. rows_routes 0 xs in
    let after = c.visit_each.new.rows in
    let v = visited g t (goal.at.visit_rows-returns g t c).After-visit_each in
    let b = c.begin.ensures in
    let none = none_of c.in_ok-best.best (sym c.is_some.ensures ∙ c.if-is_some.false) in
    let Grown : List (List Branch) → List (List Branch) → Type 0 = λ xs ys. Grows o a.slots.now [] (routes xs) (routes ys) in
    let grown = subst (Grown a.rows.now.items) (sym v.is) (subst (λ (xs : List (List Branch)). Grown xs after) c.deref_mut.ensures.value (c.in_ok-best.ensures.grows none)) in
    record {
      few = b.few;
      sound = b.sound;
      free_left = b.free_left;
      lasting = b.lasting ∙ v.lasting;
      best = sym none ∙ visited_best g t (goal.at.visit_rows-returns g t c).In_ok-best;
      grows = λ _. grows_begun o a.slots.now (growing o a.slots.now) (routes a.rows.now.items) (routes (take a.rows.now.len (after ++ drop (length after) a.rows.now.items))) (routes c.begin.new.rows.items) grown (b.begins c.if-not-begin.false);
      earned = λ some. absurd (some refl);
      counted = omega (arith, v.counted, b.counted);
      stepped = v.stepped;
    }

pub visit_node-returns-after-rows-clause-grows : goal.visit_node-returns-after-rows-clause-grows
visit_node-returns-after-rows-clause-grows g t c =
    let a = c.args in
    let o = offered a.offer.now in
    let empty : rows_routes 0 (rows_behind c.node.inside.shape) ≡ [] = ap (λ (shape : Shape). rows_routes 0 (rows_behind shape)) c.in-Leaf.is in
    let view : rows_routes 0 (rows_behind c.node.inside.shape) ≡ a.node.now.routes = ap (λ (x : Branch). x.routes) c.node.view_is in
    let now : routes_behind c.in_ok-best-in-Leaf.field-0.rows ≡ c.match-rows.node.routes = elim c.match-rows.branch [
      | visit_node-in-Some w ↦
          let is = ap (λ (x : Branch). x.routes) w.node-is in
          let put = ap (λ (x : Branch). x.routes) w.put_behind.ensures in
          ap routes_behind w.in-Some.is ∙ sym (is ∙ put)
      | visit_node-in_default w ↦
          let is = ap (λ (x : Branch). x.routes) w.node-is in
          let same : c.match-rows.node.routes ≡ [] = cc in
          ap routes_behind w.in_default.is ∙ sym same
    ] in
    λ none.
    subst (λ (rs : List Route). Grows o a.slots.now (growing o a.slots.now) rs c.match-rows.node.routes) (sym empty ∙ view)
    (subst (λ (rs : List Route). Grows o a.slots.now (growing o a.slots.now) [] rs) now (c.in_ok-best-in-Leaf.ensures.grows none))
