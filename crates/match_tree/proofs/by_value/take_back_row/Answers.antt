use Rattle.std.proofs.Common.{◌≡◌, ◌∙◌, ◌-◌, ◌++◌, ◌∷◌, [], ℕ, List, map, ap, sym, subst, arith}
use Rattle.std.specs.List.{filter, AllByRecursion}
use Rattle.std.proofs.lemmas.List.{nil_from_length}
use Rattle.tree_rows.specs.Routes.{Branch, row_routes, node_routes, lacks}
use Rattle.row_screens.specs.Offering.{offered}
use Rattle.tree_rows.specs.Order.{IsOrderedNode, IsSoundRow}
use Rattle.tree_rows.specs.Pruned.{AreShort, pruned, without_numbers}
use Rattle.match_tree.specs.Thinned.{AreVisited}
use Rattle.tree_rows.proofs.CountLemmas.{sound_filter}
use Rattle.tree_rows.proofs.PruneLemmas.{all_filtered, pruned_leaves, pruned_row, short_below}
use Rattle.match_tree.proofs.ThinLemmas.{visited_nodes}
use Rattle.match_tree.proofs.by_value.take_back_row.Goals.{After-remove_numbers-gone}
use Rattle.match_tree.proofs.by_value.take_back_row.Goals as goal

-- the row without the number's own node
removed : (c : After-remove_numbers-gone) → c.remove_numbers-gone.new.row ≡ without_numbers (c.args.offer.now.number ∷ []) c.args.row.now
removed c =
    let one : c.push.new.self ≡ c.args.offer.now.number ∷ [] = c.push.ensures.appended ∙ ap (λ (ns : List ℕ). ns ++ c.args.offer.now.number ∷ []) c.new-one.ensures.empty in
    c.remove_numbers-gone.ensures.left ∙ ap (λ (ns : List ℕ). without_numbers ns c.args.row.now) one

pub take_back_behind-requires : goal.take_back_behind-requires
take_back_behind-requires c =
    let a = c.args in
    let o = offered a.offer.now in
    let row = a.row.now in
    let is = removed (goal.at.take_back_behind-requires c).After-remove_numbers-gone in
    let visited = all_filtered (λ (x : Branch). AreVisited o a.slots.now (node_routes a.pattern x)) _ row (visited_nodes o a.slots.now a.pattern row c.requires.visited) in
    let short = all_filtered (λ (x : Branch). AreShort (a.levels - 1) x.routes) _ row (short_below a.levels 0 row c.requires.short) in
    record {
      can = c.requires.can;
      visited = subst (λ (xs : List Branch). AllByRecursion (λ node. AreVisited o a.slots.now (node_routes a.pattern node)) xs) (sym is) visited;
      few = omega (arith, c.requires.few, c.remove_numbers-gone.ensures.gone);
      sound = subst (λ (xs : List Branch). IsSoundRow xs) (sym is) (sound_filter _ row c.requires.sound);
      short = subst (λ (xs : List Branch). AllByRecursion (λ node. AreShort (a.levels - 1) node.routes) xs) (sym is) short;
    }

pub returns-then-len-eq0 : goal.returns-then-len-eq0
returns-then-len-eq0 c =
    let row = c.args.row.now in
    let none : row ≡ [] = nil_from_length row (sym c.len.ensures ∙ c.if-len-eq0.true) in
    record {
      left = λ p. ap (row_routes p) none ∙ sym (ap (λ (xs : List Branch). filter (lacks (c.args.offer.now.number ∷ [])) (row_routes p xs)) none);
      gone = omega arith;
    }

pub overflow_add-result : goal.overflow_add-result
overflow_add-result c = omega (arith, c.requires.few, c.remove_numbers-gone.ensures.gone, c.take_back_behind.ensures.gone)

pub returns : goal.returns
returns c =
    let a = c.args in
    let row = a.row.now in
    let numbers : List ℕ = a.offer.now.number ∷ [] in
    let is = removed (goal.at.returns c).After-remove_numbers-gone in
    record {
      left = λ p. ap (row_routes p) (c.take_back_behind.ensures.left ∙ ap (map (pruned numbers)) is) ∙ pruned_row numbers p row;
      gone = omega (arith, c.remove_numbers-gone.ensures.gone, c.take_back_behind.ensures.gone);
    }

pub returns-then-levels-le1 : goal.returns-then-levels-le1
returns-then-levels-le1 c =
    let a = c.args in
    let row = a.row.now in
    let numbers : List ℕ = a.offer.now.number ∷ [] in
    let is = removed (goal.at.returns-then-levels-le1 c).After-remove_numbers-gone in
    let left = without_numbers numbers row in
    let keep = all_filtered IsOrderedNode _ row c.requires.sound.ordered in
    let short = all_filtered (λ (x : Branch). AreShort (a.levels - 1) x.routes) _ row (short_below a.levels 0 row c.requires.short) in
    record {
      left = λ p. ap (row_routes p) (is ∙ sym (pruned_leaves numbers a.levels left c.if-levels-le1.true keep short)) ∙ pruned_row numbers p row;
      gone = c.remove_numbers-gone.ensures.gone;
    }
