use Rattle.std.specs.declared.collections.VecDeque.{VecDeque}
use Rattle.std.proofs.Common.{Vec, ◌≡◌, ◌∙◌, ◌≤◌, ◌<◌, ◌+◌, ◌-◌, ◌^◌, ◌∷◌, [], ◌++◌, ℕ, List, ap, sym, subst, arith, length, take, get_or, set, map, refl}
use Rattle.std.specs.List.{filter, AllByRecursion}
use Rattle.std.specs.declared.alloc.Global.{Global}
use Rattle.std.proofs.lemmas.List.{nil_from_length, get_or_default, take_more, take_more_set, drop-set-lt, length-set, map-append}
use Rattle.std.proofs.lemmas.List.Elements.{filter-append}
use denote.Param.Weighed.{at_most, most}
use Rattle.tree_rows.specs.declared.node.Node.{Node}
use Rattle.tree_rows.specs.declared.node.Shape.{Shape}
use Rattle.tree_rows.specs.Shapes.{rows_behind, branches}
use Rattle.tree_rows.specs.declared.node.Node.TheDeep.{size-Node, size-Row}
use Rattle.tree_rows.specs.declared.row.Row.TheInside.{Inside}
use Rattle.tree_rows.proofs.LeafLemmas.{leaves_kept}
use Rattle.tree_rows.proofs.FallLemmas.{node_weighs, row_weighs, nodes_fall, rows_fall}
use Rattle.tree_rows.specs.Routes.{Route, Branch, row_routes, rows_routes, lacks}
use Rattle.tree_rows.specs.Order.{AreOrdered, IsOrderedNode, IsSoundRow, AreSound}
use Rattle.tree_rows.specs.Pruned.{AreRising, AreShort, NodesRise, RiseFrom, pruned, without_numbers}
use Rattle.tree_rows.proofs.OrderLemmas.{rows_sound}
use Rattle.tree_rows.proofs.WalkLemmas.{all_at, left_item, left_more}
use Rattle.tree_rows.proofs.RowsLemmas.{before_routes, now_routes, counts_rows_on}
use Rattle.tree_rows.specs.Order.{Rise}
use Rattle.tree_rows.proofs.PruneLemmas.{row_count, short_below, pruned_row, pruned_leaves, pruned_up_to, all_filtered, all_rows, rising_behind, rising_below, rising_row, short_row}
use Rattle.tree_rows.proofs.CountLemmas.{counts_parts, counts_steps, counts_row}
use Rattle.tree_rows.proofs.prune.+prune.Goals as goal
use Rattle.tree_rows.proofs.prune.+prune.Goals.{prune_behind-in-Empty, prune_behind-in-One, prune_behind-in-Leaves, prune_behind-in-Many, prune_behind-in-Mixed}

pub prune_node-prune_rows-requires : goal.prune_node-prune_rows-requires
prune_node-prune_rows-requires t c =
    let a = c.args in
    let rows = c.in-Inner.rows.value.items in
    let same : rows ≡ c.deref_mut-in-Inner.result.now = sym (c.deref_mut-in-Inner.ensures.value ∙ ap (λ (v : Vec (List Branch) Global). v.items) c.deref_mut.ensures.value) in
    let routes_are : rows_routes 0 rows ≡ a.node.now.routes = sym (ap (λ (shape : Shape). rows_routes 0 (rows_behind shape)) c.in-Inner.is) ∙ ap (λ (x : Branch). x.routes) c.node.view_is in
    let smaller = rows_fall rows in
    let weight = node_weighs a.node.now in
    let deep = ap (most size-Row) same in
    let count = ap (λ (rs : List Route). length rs) routes_are in
    let at : (P : List (List Branch) → Type 0) → P rows → P c.deref_mut-in-Inner.result.now = λ P p. subst P same p in (
      omega (arith, c.decreases),
      (
        at (λ xs. length (rows_routes 0 xs) < 2 ^ 64) (omega (arith, c.requires.few)),
        (
          at (λ xs. AreSound xs) (rows_sound 0 rows (subst AreOrdered (sym routes_are) c.requires.ordered.1)),
          (
            at (λ xs. AreShort a.levels (rows_routes 0 xs)) (subst (AreShort a.levels) (sym routes_are) c.requires.short),
            at (λ xs. AreRising (rows_routes 0 xs)) (subst AreRising (sym routes_are) (rising_behind a.node.now.number a.node.now.routes c.requires.rising)),
          ),
        ),
      ),
    )

pub prune_nodes-loop-place-init : goal.prune_nodes-loop-place-init
prune_nodes-loop-place-init t c = record { done = refl; left = refl; long = refl; counted = refl }

pub prune_nodes-index_mut-requires : goal.prune_nodes-index_mut-requires
prune_nodes-index_mut-requires t c = omega (arith, c.loop-place-test.true, c.len-place-end.ensures, c.loop-place.invariant.long, c.args.nodes.now.ok.0, c.loop-place.nodes.ok.0)

pub prune_nodes-prune_node-gone-requires : goal.prune_nodes-prune_node-gone-requires
prune_nodes-prune_node-gone-requires t c =
    let a = c.args in
    let i : ℕ = c.loop-place.place in
    let d = c.index_mut.result.now in
    let first = a.nodes.now.items in
    let items = c.loop-place.nodes.items in
    let is : d ≡ get_or first i d = c.index_mut.ensures.value ∙ left_item items first i d c.loop-place.invariant.left in
    let within : i < length first = omega (arith, c.loop-place-test.true, c.len-place-end.ensures, a.nodes.now.ok.0) in
    let count = counts_parts first i d within is in (
      omega (arith, c.decreases, at_most size-Node first i d within, ap size-Node is),
      (
        omega (arith, c.requires.few),
        (
          subst IsOrderedNode (sym is) (all_at IsOrderedNode first i d within c.requires.ordered),
          (
            subst (λ (x : Branch). AreShort a.levels x.routes) (sym is) (all_at (λ (x : Branch). AreShort a.levels x.routes) first i d within c.requires.short),
            subst (λ (x : Branch). RiseFrom x.number x.routes) (sym is) (all_at (λ (x : Branch). RiseFrom x.number x.routes) first i d within c.requires.rising),
          ),
        ),
      ),
    )

pub prune_nodes-overflow_add-gone : goal.prune_nodes-overflow_add-gone
prune_nodes-overflow_add-gone t c =
    let a = c.args in
    let i : ℕ = c.loop-place.place in
    let d = c.index_mut.result.now in
    let first = a.nodes.now.items in
    let items = c.loop-place.nodes.items in
    let is : d ≡ get_or first i d = c.index_mut.ensures.value ∙ left_item items first i d c.loop-place.invariant.left in
    let within : i < length first = omega (arith, c.loop-place-test.true, c.len-place-end.ensures, a.nodes.now.ok.0) in
    let count = counts_parts first i d within is in
    omega (arith, c.requires.few, c.loop-place.invariant.counted, c.prune_node-gone.ensures.gone)

pub prune_nodes-loop-place-preserved : goal.prune_nodes-loop-place-preserved
prune_nodes-loop-place-preserved t c =
    let a = c.args in
    let i : ℕ = c.loop-place.place in
    let d = c.index_mut.result.now in
    let first = a.nodes.now.items in
    let items = c.loop-place.nodes.items in
    let now = c.prune_node-gone.new.node in
    let is : d ≡ get_or first i d = c.index_mut.ensures.value ∙ left_item items first i d c.loop-place.invariant.left in
    let within : i < length first = omega (arith, c.loop-place-test.true, c.len-place-end.ensures, a.nodes.now.ok.0) in
    let within' : i < length items = omega (arith, c.loop-place.invariant.long) in
    let cut : Branch → Branch = pruned a.numbers.now in
    let count = counts_steps first items i d now d within within' is in
    record {
      done = take_more_set items i now within' ∙ (λ j. c.loop-place.invariant.done j ++ (c.prune_node-gone.ensures.left ∙ ap cut is) j ∷ [])
          ∙ sym (map-append cut (take i first) (get_or first i d ∷ [])) ∙ ap (map cut) (sym (take_more first i d within));
      left = drop-set-lt (i + 1) items i now (omega arith) ∙ left_more items first i c.loop-place.invariant.left;
      long = length-set items i now ∙ c.loop-place.invariant.long;
      counted = omega (arith, c.loop-place.invariant.counted, c.prune_node-gone.ensures.gone);
    }

pub prune_behind-prune_nodes-requires : goal.prune_behind-prune_nodes-requires
prune_behind-prune_nodes-requires t c =
    let a = c.args in
    let is : c.in-Mixed.nodes.value.items ≡ a.row.now = sym (ap branches c.in-Mixed.is) ∙ c.row.view_is in
    let same : a.row.now ≡ c.deref_mut.result.now.items = sym (ap (λ (v : VecDeque Node Global). v.items) c.deref_mut.ensures.value ∙ is) in
    let deep = ap (most size-Node) same in
    let smaller = nodes_fall a.row.now in
    let at : (P : List Branch → Type 0) → P a.row.now → P c.deref_mut.result.now.items = λ P p. subst P same p in (
      omega (arith, c.decreases),
      (
        at (λ xs. length (row_routes 0 xs) < 2 ^ 64) c.requires.few,
        (
          at (λ xs. AllByRecursion IsOrderedNode xs) c.requires.ordered,
          (at (λ xs. AllByRecursion (λ node. AreShort a.levels node.routes) xs) c.requires.short, at (λ xs. NodesRise xs) c.requires.rising),
        ),
      ),
    )

pub prune_behind-returns-clause-left : goal.prune_behind-returns-clause-left
prune_behind-returns-clause-left t c =
    let row = c.args.row.now in
    let numbers = c.args.numbers.now in
    let seen : Inside → List Branch = λ x. branches x.nodes in
    elim c.match-row.branch [
      | prune_behind-in-Empty w ↦ ap seen w.row-inside-is ∙ c.row.view_is ∙ leaves_kept numbers [] row (sym c.row.view_is ∙ ap branches w.in-Empty.is)
      | prune_behind-in-One w ↦ ap seen w.row-inside-is ∙ c.row.view_is ∙ leaves_kept numbers (w.in-One.field-0 ∷ []) row (sym c.row.view_is ∙ ap branches w.in-One.is)
      | prune_behind-in-Leaves w ↦ ap seen w.row-inside-is ∙ c.row.view_is ∙ leaves_kept numbers w.in-Leaves.field-0.value.items row (sym c.row.view_is ∙ ap branches w.in-Leaves.is)
      | prune_behind-in-Many w ↦ ap seen w.row-inside-is ∙ c.row.view_is ∙ leaves_kept numbers w.in-Many.field-0.value row (sym c.row.view_is ∙ ap branches w.in-Many.is)
      | prune_behind-in-Mixed w ↦
          let is : w.deref_mut.result.now.items ≡ row = ap (λ (v : VecDeque Node Global). v.items) w.deref_mut.ensures.value ∙ sym (ap branches w.in-Mixed.is) ∙ c.row.view_is in
          ap seen w.row-inside-is ∙ w.prune_nodes.ensures.left ∙ ap (map (pruned numbers)) is
    ]

pub prune_row-prune_behind-requires : goal.prune_row-prune_behind-requires
prune_row-prune_behind-requires t c =
    let a = c.args in
    let row = a.row.now in
    let is = c.remove_numbers-gone.ensures.left in
    let keep = all_filtered IsOrderedNode _ row c.requires.sound.ordered in
    let short = all_filtered (λ (x : Branch). AreShort (a.levels - 1) x.routes) _ row (short_below a.levels 0 row c.requires.short) in
    let rising = all_filtered (λ (x : Branch). RiseFrom x.number x.routes) _ row (rising_below 0 row c.requires.rising) in
    let before = row_weighs row in
    let after = row_weighs c.remove_numbers-gone.new.row in (
      omega (arith, c.decreases, c.remove_numbers-gone.ensures.gone),
      (omega (arith, c.requires.few, c.remove_numbers-gone.ensures.gone), (subst (λ (xs : List Branch). AllByRecursion IsOrderedNode xs) (sym is) keep, (subst (λ (xs : List Branch). AllByRecursion (λ node. AreShort (a.levels - 1) node.routes) xs) (sym is) short, subst (λ (xs : List Branch). NodesRise xs) (sym is) rising))),
    )

pub prune_row-returns-then-len-eq0 : goal.prune_row-returns-then-len-eq0
prune_row-returns-then-len-eq0 t c =
    let row = c.args.row.now in
    let none : row ≡ [] = nil_from_length row (sym c.len.ensures ∙ c.if-len-eq0.true) in
    record {
      left = λ p. ap (row_routes p) none ∙ sym (ap (λ (xs : List Branch). filter (lacks c.args.numbers.now) (row_routes p xs)) none);
      gone = omega arith;
    }

pub prune_row-overflow_add-result : goal.prune_row-overflow_add-result
prune_row-overflow_add-result t c = omega (arith, c.requires.few, c.remove_numbers-gone.ensures.gone, c.prune_behind.ensures.gone)

pub prune_row-returns : goal.prune_row-returns
prune_row-returns t c =
    let a = c.args in
    let row = a.row.now in
    record {
      left = λ p. ap (row_routes p) (c.prune_behind.ensures.left ∙ ap (map (pruned a.numbers.now)) c.remove_numbers-gone.ensures.left) ∙ pruned_row a.numbers.now p row;
      gone = omega (arith, c.remove_numbers-gone.ensures.gone, c.prune_behind.ensures.gone);
    }

pub prune_row-returns-then-levels-le1 : goal.prune_row-returns-then-levels-le1
prune_row-returns-then-levels-le1 t c =
    let a = c.args in
    let row = a.row.now in
    let left = without_numbers a.numbers.now row in
    let keep = all_filtered IsOrderedNode _ row c.requires.sound.ordered in
    let short = all_filtered (λ (x : Branch). AreShort (a.levels - 1) x.routes) _ row (short_below a.levels 0 row c.requires.short) in
    record {
      left = λ p. ap (row_routes p) (c.remove_numbers-gone.ensures.left ∙ sym (pruned_leaves a.numbers.now a.levels left c.if-levels-le1.true keep short)) ∙ pruned_row a.numbers.now p row;
      gone = c.remove_numbers-gone.ensures.gone;
    }

pub prune_rows-prune_row-gone-requires : goal.prune_rows-prune_row-gone-requires
prune_rows-prune_row-gone-requires t c =
    let a = c.args in
    let i : ℕ = c.loop-row.row-index in
    let d = c.row-item.result in
    let items = c.loop-row.rows in
    let first = a.rows.now in
    let in_rows : i < length first = omega (arith, c.loop-row-test.true, c.loop-row.auto.rows) in
    let is : get_or items i d ≡ get_or first i d = left_item items first i d c.loop-row.invariant.left in
    let here = at_most size-Row first i d in_rows in
    let weight = ap size-Row is in
    let short = all_rows (λ (r : Route). length r ≤ a.levels) 0 first i d in_rows c.requires.short in
    let rising = all_rows (λ (r : Route). Rise (map (λ s. s.number) r)) 0 first i d in_rows c.requires.rising in
    let count = counts_row first i (get_or first i d) in_rows (get_or_default first i d (get_or first i d) in_rows) in
    let length_is = ap (λ (xs : List Branch). length (row_routes 0 xs)) is in (
      omega (arith, c.decreases),
      (
        omega (arith, c.requires.few),
        (subst (λ (xs : List Branch). IsSoundRow xs) (sym is) (all_at IsSoundRow first i d in_rows c.requires.sound), (subst (λ (xs : List Branch). AreShort a.levels (row_routes 0 xs)) (sym is) (short_row a.levels (0 + i) 0 (get_or first i d) short), subst (λ (xs : List Branch). AreRising (row_routes 0 xs)) (sym is) (rising_row (0 + i) 0 (get_or first i d) rising))),
      ),
    )

pub prune_rows-overflow_add-gone : goal.prune_rows-overflow_add-gone
prune_rows-overflow_add-gone t c =
    let a = c.args in
    let i : ℕ = c.loop-row.row-index in
    let d = c.row-item.result in
    let items = c.loop-row.rows in
    let first = a.rows.now in
    let same = left_item items first i d c.loop-row.invariant.left in
    let is : get_or items i d ≡ get_or first i d = same in
    let in_rows : i < length first = omega (arith, c.loop-row-test.true, c.loop-row.auto.rows) in
    let count = counts_row first i (get_or first i d) in_rows (get_or_default first i d (get_or first i d) in_rows) in
    let length_is = ap (λ (xs : List Branch). length (row_routes 0 xs)) is in
    omega (arith, c.requires.few, c.loop-row.invariant.counted, c.prune_row-gone.ensures.gone)

pub prune_rows-loop-row-preserved : goal.prune_rows-loop-row-preserved
prune_rows-loop-row-preserved t c =
    let a = c.args in
    let i : ℕ = c.loop-row.row-index in
    let d = c.row-item.result in
    let items = c.loop-row.rows in
    let first = a.rows.now in
    let now = c.prune_row-gone.new.row in
    let within : i < length first = omega (arith, c.loop-row-test.true, c.loop-row.auto.rows) in
    let same = left_item items first i d c.loop-row.invariant.left in
    let row = get_or items i d in
    let is : row ≡ get_or first i d = same in
    let in_rows : i < length first = omega arith in
    let in_items : i < length items = omega (arith, c.loop-row-test.true, c.loop-row.auto.rows) in
    let B = first in
    let R = items in
    let keep = filter (lacks a.numbers.now) in
    let before : length (rows_routes 0 (take (i + 1) B)) ≡ length (rows_routes 0 (take i B)) + length (row_routes 0 row) = (counts_rows_on B R i row now d in_rows in_items is).0 ∙ ap (λ (n : ℕ). length (rows_routes 0 (take i B)) + n) (row_count i 0 row) in
    let after : length (rows_routes 0 (take (i + 1) (set items i now))) ≡ length (rows_routes 0 (take i R)) + length (row_routes 0 now) =
    (counts_rows_on B R i row now d in_rows in_items is).1 ∙ ap (λ (n : ℕ). length (rows_routes 0 (take i R)) + n) (row_count i 0 now)
    in
    record {
      done = now_routes B R i row now d in_rows in_items is
          ∙ (λ j. c.loop-row.invariant.done j ++ c.prune_row-gone.ensures.left i j)
          ∙ sym (filter-append (lacks a.numbers.now) (rows_routes 0 (take i B)) (row_routes i row)) ∙ ap keep (sym (before_routes B R i row now d in_rows in_items is));
      left = drop-set-lt (i + 1) items i now (omega arith) ∙ left_more items first i c.loop-row.invariant.left;
      counted = omega (arith, c.loop-row.invariant.counted, c.prune_row-gone.ensures.gone);
    }

pub prune_node-returns-then-are_up_to-clause-left : goal.prune_node-returns-then-are_up_to-clause-left
prune_node-returns-then-are_up_to-clause-left t c =
    let node = c.args.node.now in
    pruned_up_to c.args.numbers.now node (subst (λ (m : ℕ). AllByRecursion (λ n. n ≤ m) c.args.numbers.now) c.number.ensures (c.are_up_to.ensures c.if-are_up_to.true)) c.requires.rising
