use Rattle.std.proofs.Common.{◌≡◌, ◌∙◌, ◌-◌, [], List, map, ap, sym, subst, arith}
use Rattle.std.specs.List.{filter, AllByRecursion}
use Rattle.std.proofs.lemmas.List.{nil_from_length}
use Rattle.tree_rows.specs.Routes.{Branch, row_routes, node_routes, lacks}
use Rattle.row_screens.specs.Offering.{offered}
use Rattle.tree_rows.specs.Order.{IsOrderedNode, IsSoundRow}
use Rattle.tree_rows.specs.Pruned.{AreShort, pruned, without_numbers}
use Rattle.match_tree.specs.Thinned.{ContinuePath, NodesContinuePath}
use Rattle.tree_rows.proofs.CountLemmas.{sound_filter}
use Rattle.tree_rows.proofs.PruneLemmas.{all_filtered, pruned_leaves, pruned_row, short_below}
use Rattle.match_tree.proofs.ThinLemmas.{nodes_go_on}
use Rattle.match_tree.proofs.by_value.prune_pattern.Goals as goal

pub prune_behind_values-requires : goal.prune_behind_values-requires
prune_behind_values-requires c =
    let a = c.args in
    let o = offered a.offer.now in
    let row = a.row.now in
    let is = c.remove_numbers-gone.ensures.left in
    let go_on = all_filtered (λ (x : Branch). ContinuePath o a.slots.now (node_routes a.pattern x)) _ row (nodes_go_on o a.slots.now a.pattern row c.requires.lead) in
    let short = all_filtered (λ (x : Branch). AreShort (a.levels - 1) x.routes) _ row (short_below a.levels 0 row c.requires.short) in
    record {
      empty = c.requires.empty;
      can = c.requires.can;
      recorded = c.requires.recorded;
      go_on = subst (λ (xs : List Branch). NodesContinuePath o a.slots.now a.pattern xs) (sym is) go_on;
      few = omega (arith, c.requires.few, c.remove_numbers-gone.ensures.gone);
      sound = subst (λ (xs : List Branch). IsSoundRow xs) (sym is) (sound_filter _ row c.requires.sound);
      short = subst (λ (xs : List Branch). AllByRecursion (λ node. AreShort (a.levels - 1) node.routes) xs) (sym is) short;
    }

pub returns-then-len-eq0 : goal.returns-then-len-eq0
returns-then-len-eq0 c =
    let row = c.args.row.now in
    let none : row ≡ [] = nil_from_length row (sym c.len.ensures ∙ c.if-len-eq0.true) in
    record {
      left = λ p. ap (row_routes p) none ∙ sym (ap (λ (xs : List Branch). filter (lacks c.args.numbers.now) (row_routes p xs)) none);
      gone = omega arith;
    }

pub overflow_add-result : goal.overflow_add-result
overflow_add-result c = omega (arith, c.requires.few, c.remove_numbers-gone.ensures.gone, c.prune_behind_values.ensures.gone)

pub returns : goal.returns
returns c =
    let a = c.args in
    let row = a.row.now in
    record {
      left = λ p. ap (row_routes p) (c.prune_behind_values.ensures.left ∙ ap (map (pruned a.numbers.now)) c.remove_numbers-gone.ensures.left) ∙ pruned_row a.numbers.now p row;
      gone = omega (arith, c.remove_numbers-gone.ensures.gone, c.prune_behind_values.ensures.gone);
    }

pub returns-then-levels-le1 : goal.returns-then-levels-le1
returns-then-levels-le1 c =
    let a = c.args in
    let row = a.row.now in
    let left = without_numbers a.numbers.now row in
    let keep = all_filtered IsOrderedNode _ row c.requires.sound.ordered in
    let short = all_filtered (λ (x : Branch). AreShort (a.levels - 1) x.routes) _ row (short_below a.levels 0 row c.requires.short) in
    record {
      left = λ p. ap (row_routes p) (c.remove_numbers-gone.ensures.left ∙ sym (pruned_leaves a.numbers.now a.levels left c.if-levels-le1.true keep short)) ∙ pruned_row a.numbers.now p row;
      gone = c.remove_numbers-gone.ensures.gone;
    }
