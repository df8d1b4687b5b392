use Rattle.std.proofs.Common.{◌≡◌, ◌∙◌, ◌<◌, ◌≤◌, ◌+◌, ◌∷◌, [], ◌++◌, ℕ, List, ap, sym, subst, arith, length, take, get_or, set, map}
use Rattle.std.proofs.lemmas.List.{get_or_default, take_more, take_more_set, drop-set-lt, map-append}
use Rattle.tree_rows.specs.Routes.{Route, Branch, row_routes, rows_routes}
use Rattle.tree_rows.specs.Order.{IsSoundRow}
use Rattle.tree_rows.specs.Pruned.{AreShort, seen_nodes}
use Rattle.tree_rows.proofs.WalkLemmas.{all_at, left_item, left_more}
use Rattle.tree_rows.proofs.RowsLemmas.{counts_rows_on}
use Rattle.tree_rows.proofs.PruneLemmas.{row_count, all_rows, short_row}
use Rattle.tree_rows.proofs.CountLemmas.{counts_row}
use Rattle.tree_rows.proofs.expire.drop_unseen.Goals as goal

pub drop_front-gone-requires : goal.drop_front-gone-requires
drop_front-gone-requires c =
    let first = c.args.rows.now in
    let i : ℕ = c.loop-row.row-index in
    let d = c.row-item.result in
    let items = c.loop-row.rows in
    let B = first in
    let same = left_item items first i d c.loop-row.invariant.left in
    let is : get_or items i d ≡ get_or B i d = same in
    let in_rows : i < length B = omega (arith, c.loop-row-test.true, c.loop-row.auto.rows) in
    let count = counts_row B i (get_or B i d) in_rows (get_or_default B i d (get_or B i d) in_rows) in
    let length_is = ap (λ (xs : List Branch). length (row_routes 0 xs)) is in
    let short = all_rows (λ (r : Route). length r ≤ c.args.levels) 0 B i d in_rows c.requires.short in
    record {
      sound = subst (λ (xs : List Branch). IsSoundRow xs) (sym is) (all_at IsSoundRow B i d in_rows c.requires.sound);
      few = omega (arith, c.requires.few);
      short = subst (λ (xs : List Branch). AreShort c.args.levels (row_routes 0 xs)) (sym is) (short_row c.args.levels (0 + i) 0 (get_or B i d) short);
    }

pub overflow_add-gone : goal.overflow_add-gone
overflow_add-gone c =
    let first = c.args.rows.now in
    let i : ℕ = c.loop-row.row-index in
    let d = c.row-item.result in
    let items = c.loop-row.rows in
    let B = first in
    let same = left_item items first i d c.loop-row.invariant.left in
    let is : get_or items i d ≡ get_or B i d = same in
    let in_rows : i < length B = omega (arith, c.loop-row-test.true, c.loop-row.auto.rows) in
    let count = counts_row B i (get_or B i d) in_rows (get_or_default B i d (get_or B i d) in_rows) in
    let length_is = ap (λ (xs : List Branch). length (row_routes 0 xs)) is in
    omega (arith, c.requires.few, c.loop-row.invariant.counted, c.drop_front-gone.ensures.gone)

pub loop-row-preserved : goal.loop-row-preserved
loop-row-preserved c =
    let first = c.args.rows.now in
    let i : ℕ = c.loop-row.row-index in
    let d = c.row-item.result in
    let items = c.loop-row.rows in
    let now = c.drop_front-gone.new.row in
    let within : i < length first = omega (arith, c.loop-row-test.true, c.loop-row.auto.rows) in
    let same = left_item items first i d c.loop-row.invariant.left in
    let row = get_or items i d in
    let is : row ≡ get_or first i d = same in
    let in_rows : i < length first = omega arith in
    let in_items : i < length items = omega (arith, c.loop-row-test.true, c.loop-row.auto.rows) in
    let B = first in
    let R = items in
    let cut : List Branch → List Branch = seen_nodes c.args.oldest in
    let on = counts_rows_on B R i row now d in_rows in_items is in
    let before : length (rows_routes 0 (take (i + 1) B)) ≡ length (rows_routes 0 (take i B)) + length (row_routes 0 row) = on.0 ∙ ap (λ (n : ℕ). length (rows_routes 0 (take i B)) + n) (row_count i 0 row) in
    let after : length (rows_routes 0 (take (i + 1) (set items i now))) ≡ length (rows_routes 0 (take i R)) + length (row_routes 0 now) =
    on.1 ∙ ap (λ (n : ℕ). length (rows_routes 0 (take i R)) + n) (row_count i 0 now)
    in
    record {
      done = take_more_set R i now in_items ∙ (λ j. c.loop-row.invariant.done j ++ (c.drop_front-gone.ensures.left ∙ ap cut is) j ∷ [])
          ∙ sym (map-append cut (take i B) (get_or B i d ∷ [])) ∙ ap (map cut) (sym (take_more B i d in_rows));
      left = drop-set-lt (i + 1) items i now (omega arith) ∙ left_more items first i c.loop-row.invariant.left;
      counted = omega (arith, c.loop-row.invariant.counted, c.drop_front-gone.ensures.gone);
    }
