use Rattle.std.proofs.Common.{◌≡◌, ◌∙◌, ◌+◌, ◌<◌, ◌≤◌, ◌++◌, ◌∷◌, [], ℕ, List, length, take, get_or, set, refl, ap, sym, subst, arith, zero-add}
use Rattle.std.specs.List.{filter}
use Rattle.std.proofs.lemmas.List.{drop-set-lt, get_or_default, take_all}
use Rattle.std.proofs.lemmas.List.Elements.{filter-append}
use Rattle.tree_rows.specs.Routes.{Route, Branch, row_routes, rows_routes, lacks}
use Rattle.row_screens.specs.Offering.{offered}
use Rattle.tree_rows.specs.Order.{IsSoundRow}
use Rattle.tree_rows.specs.Pruned.{AreShort}
use Rattle.match_tree.specs.Thinned.{AreVisited, IsVisited}
use Rattle.tree_rows.proofs.CountLemmas.{counts_row}
use Rattle.tree_rows.proofs.PruneLemmas.{all_rows, row_count, short_row}
use Rattle.tree_rows.proofs.RowsLemmas.{before_routes, counts_rows_on, now_routes}
use Rattle.tree_rows.proofs.WalkLemmas.{all_at, left_item, left_more}
use Rattle.match_tree.proofs.by_value.take_back.Goals as goal

pub loop-place-init : goal.loop-place-init
loop-place-init c = record { done = refl; left = refl; counted = refl }

pub take_back_row-gone-requires : goal.take_back_row-gone-requires
take_back_row-gone-requires c =
    let a = c.args in
    let o = offered a.offer.now in
    let i : ℕ = c.loop-place.place in
    let d = c.index-rows-place.result in
    let first = a.rows.now in
    let items = c.loop-place.rows in
    let is : get_or items i d ≡ get_or first i d = left_item items first i d c.loop-place.invariant.left in
    let in_rows : i < length first = omega (arith, c.loop-place-test.true, c.loop-place.auto.rows) in
    let short = all_rows (λ (r : Route). length r ≤ a.levels) 0 first i d in_rows c.requires.short in
    let visited = all_rows (IsVisited o a.slots.now) 0 first i d in_rows c.requires.visited in
    let Visited : ℕ → Type 0 = λ k. AreVisited o a.slots.now (row_routes k (get_or first i d)) in
    let count = counts_row first i (get_or first i d) in_rows (get_or_default first i d (get_or first i d) in_rows) in
    let length_is = ap (λ (xs : List Branch). length (row_routes 0 xs)) is in
    record {
      can = c.requires.can;
      visited = subst (λ (xs : List Branch). AreVisited o a.slots.now (row_routes i xs)) (sym is) (subst Visited (zero-add i) visited);
      few = omega (arith, c.requires.few);
      sound = subst (λ (xs : List Branch). IsSoundRow xs) (sym is) (all_at IsSoundRow first i d in_rows c.requires.sound);
      short = subst (λ (xs : List Branch). AreShort a.levels (row_routes 0 xs)) (sym is) (short_row a.levels (0 + i) 0 (get_or first i d) short);
    }

pub overflow_add-gone : goal.overflow_add-gone
overflow_add-gone c =
    let i : ℕ = c.loop-place.place in
    let d = c.index-rows-place.result in
    let items = c.loop-place.rows in
    let first = c.args.rows.now in
    let is : get_or items i d ≡ get_or first i d = left_item items first i d c.loop-place.invariant.left in
    let in_rows : i < length first = omega (arith, c.loop-place-test.true, c.loop-place.auto.rows) in
    let count = counts_row first i (get_or first i d) in_rows (get_or_default first i d (get_or first i d) in_rows) in
    let length_is = ap (λ (xs : List Branch). length (row_routes 0 xs)) is in
    omega (arith, c.requires.few, c.loop-place.invariant.counted, c.take_back_row-gone.ensures.gone)

pub loop-place-preserved : goal.loop-place-preserved
loop-place-preserved c =
    let a = c.args in
    let i : ℕ = c.loop-place.place in
    let d = c.index-rows-place.result in
    let first = a.rows.now in
    let items = c.loop-place.rows in
    let now = c.take_back_row-gone.new.row in
    let row = get_or items i d in
    let is : row ≡ get_or first i d = left_item items first i d c.loop-place.invariant.left in
    let in_rows : i < length first = omega (arith, c.loop-place-test.true, c.loop-place.auto.rows) in
    let in_items : i < length items = omega (arith, c.loop-place-test.true, c.loop-place.auto.rows) in
    let keep = filter (lacks (a.offer.now.number ∷ [])) in
    let before : length (rows_routes 0 (take (i + 1) first)) ≡ length (rows_routes 0 (take i first)) + length (row_routes 0 row) = (counts_rows_on first items i row now d in_rows in_items is).0 ∙ ap (λ (n : ℕ). length (rows_routes 0 (take i first)) + n) (row_count i 0 row) in
    let after : length (rows_routes 0 (take (i + 1) (set items i now))) ≡ length (rows_routes 0 (take i items)) + length (row_routes 0 now) =
    (counts_rows_on first items i row now d in_rows in_items is).1 ∙ ap (λ (n : ℕ). length (rows_routes 0 (take i items)) + n) (row_count i 0 now)
    in
    record {
      done = now_routes first items i row now d in_rows in_items is
          ∙ (λ j. c.loop-place.invariant.done j ++ c.take_back_row-gone.ensures.left i j)
          ∙ sym (filter-append (lacks (a.offer.now.number ∷ [])) (rows_routes 0 (take i first)) (row_routes i row)) ∙ ap keep (sym (before_routes first items i row now d in_rows in_items is));
      left = drop-set-lt (i + 1) items i now (omega arith) ∙ left_more items first i c.loop-place.invariant.left;
      counted = omega (arith, c.loop-place.invariant.counted, c.take_back_row-gone.ensures.gone);
    }

pub returns : goal.returns
returns c =
    let a = c.args in
    let items = c.loop-place.rows in
    let i : ℕ = c.loop-place.place in
    let first = a.rows.now in
    let all : take i first ≡ first = take_all i first (omega (arith, c.loop-place-test.false, c.loop-place.auto.rows)) in
    let all' : take i items ≡ items = take_all i items (omega (arith, c.loop-place-test.false, c.loop-place.auto.rows)) in
    let inv = c.loop-place.invariant in
    let both : (P : List (List Branch) → List (List Branch) → Type 0) → P (take i first) (take i items) → P first items = λ P p. subst (λ (xs : List (List Branch)). P xs items) all (subst (P (take i first)) all' p) in
    record {
      left = both (λ xs ys. rows_routes 0 ys ≡ filter (lacks (a.offer.now.number ∷ [])) (rows_routes 0 xs)) inv.done;
      gone = both (λ xs ys. c.loop-place.gone + length (rows_routes 0 ys) ≡ length (rows_routes 0 xs)) inv.counted;
    }
