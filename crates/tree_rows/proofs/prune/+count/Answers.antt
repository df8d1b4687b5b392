use Rattle.std.proofs.Common.{Vec, ◌≡◌, ◌∙◌, ◌≤◌, ◌<◌, ◌+◌, ◌-◌, ◌^◌, ◌∷◌, ℕ, List, ap, sym, subst, arith, length, drop, get_or, map, deque_len, length-append}
use Rattle.std.specs.declared.alloc.Global.{Global}
use Rattle.std.proofs.lemmas.List.{drop_more, at_drop_more}
use Rattle.guard_eval.proofs.ReadyLemmas.{all_left, all_right}
use denote.Param.Weighed.{at_most, most}
use Rattle.tree_rows.specs.declared.node.Node.{Node}
use Rattle.tree_rows.specs.declared.node.Shape.{Shape}
use Rattle.tree_rows.specs.Shapes.{rows_behind}
use Rattle.tree_rows.specs.declared.node.Node.TheDeep.{size-Node, size-Row}
use Rattle.tree_rows.specs.Rows.{leaf}
use Rattle.tree_rows.specs.Shapes.{branches}
use Rattle.tree_rows.proofs.FallLemmas.{node_weighs, nodes_fall, rows_fall}
use Rattle.tree_rows.proofs.LeafLemmas.{leaf_count}
use Rattle.std.specs.declared.collections.VecDeque.{VecDeque}
use Rattle.std.specs.List.{AllByRecursion}
use Rattle.tree_rows.specs.Routes.{Route, Branch, row_routes, rows_routes, node_routes}
use Rattle.tree_rows.specs.Order.{AreOrdered, IsOrderedNode, AreSound}
use Rattle.tree_rows.specs.Pruned.{AreShort}
use Rattle.tree_rows.proofs.OrderLemmas.{rows_sound}
use Rattle.tree_rows.proofs.WalkLemmas.{all_at, node_length}
use Rattle.tree_rows.proofs.PruneLemmas.{short_below, leaves_count, rows_count, short_rows}
use Rattle.tree_rows.proofs.prune.+count.Goals as goal

pub count_node-count_rows-requires : goal.count_node-count_rows-requires
count_node-count_rows-requires t c =
    let a = c.args in
    let rows = c.in-Inner.rows.value.items in
    let same : rows ≡ c.deref-in-Inner.result.now = sym (c.deref-in-Inner.ensures.value ∙ ap (λ (v : Vec (List Branch) Global). v.items) c.deref.ensures) in
    let routes_are : rows_routes 0 rows ≡ a.node.now.routes = sym (ap (λ (shape : Shape). rows_routes 0 (rows_behind shape)) c.in-Inner.is) ∙ ap (λ (x : Branch). x.routes) c.node.view_is in
    let count = ap (λ (rs : List Route). length rs) routes_are in
    let smaller = rows_fall rows in
    let weight = node_weighs a.node.now in
    let deep = ap (most size-Row) same in
    let at : (P : List (List Branch) → Type 0) → P rows → P c.deref-in-Inner.result.now = λ P p. subst P same p in (
      omega (arith, c.decreases),
      (
        at (λ xs. length (rows_routes 0 xs) < 2 ^ 64) (omega (arith, c.requires.few)),
        (
          at (λ xs. AreSound xs) (rows_sound 0 rows (subst AreOrdered (sym routes_are) c.requires.ordered.1)),
          at (λ xs. AreShort a.levels (rows_routes 0 xs)) (subst (AreShort a.levels) (sym routes_are) c.requires.short),
        ),
      ),
    )

pub count_row-returns-then-levels-le1 : goal.count_row-returns-then-levels-le1
count_row-returns-then-levels-le1 t c =
    let a = c.args in
    let all = leaves_count a.levels 0 a.row.now c.if-levels-le1.true c.requires.sound.ordered (short_below a.levels 0 a.row.now c.requires.short) in
    omega (arith, c.len.ensures)

pub count_row-returns-in-Many : goal.count_row-returns-in-Many
count_row-returns-in-Many t c =
    let leaves : List ℕ = c.in-Many.leaves.value in
    let is : map leaf leaves ≡ c.args.row.now = sym (ap branches c.in-Many.is) ∙ c.row.view_is in
    let count = ap (λ (row : List Branch). length (row_routes 0 row)) is in
    omega (arith, c.len-in-Many.ensures, ap (λ (ns : List ℕ). length ns) c.deref-in-Many.ensures, leaf_count leaves, count)

pub count_row-returns-in-Leaves : goal.count_row-returns-in-Leaves
count_row-returns-in-Leaves t c =
    let leaves = c.in-Leaves.leaves.value in
    let is : map leaf leaves.items ≡ c.args.row.now = sym (ap branches c.in-Leaves.is) ∙ c.row.view_is in
    let count = ap (λ (row : List Branch). length (row_routes 0 row)) is in
    omega (arith, c.len-in-Leaves.ensures, ap deque_len c.deref.ensures, leaves.ok.0, leaf_count leaves.items, count)

pub count_row-count_nodes-requires : goal.count_row-count_nodes-requires
count_row-count_nodes-requires t c =
    let a = c.args in
    let is : c.in-Mixed.nodes.value.items ≡ a.row.now = sym (ap branches c.in-Mixed.is) ∙ c.row.view_is in
    let same : a.row.now ≡ c.deref-in-Mixed.result.now.items = sym (ap (λ (v : VecDeque Node Global). v.items) c.deref-in-Mixed.ensures ∙ is) in
    let deep = ap (most size-Node) same in
    let smaller = nodes_fall a.row.now in
    let at : (P : List Branch → Type 0) → P a.row.now → P c.deref-in-Mixed.result.now.items = λ P p. subst P same p in (
      omega (arith, c.decreases),
      (
        at (λ xs. length (row_routes 0 xs) < 2 ^ 64) c.requires.few,
        (
          at (λ xs. AllByRecursion IsOrderedNode xs) c.requires.sound.ordered,
          at (λ xs. AllByRecursion (λ node. AreShort (a.levels - 1) node.routes) xs) (short_below a.levels 0 a.row.now c.requires.short),
        ),
      ),
    )

pub count_nodes-count_node-requires : goal.count_nodes-count_node-requires
count_nodes-count_node-requires t c =
    let a = c.args in
    let i : ℕ = c.loop-place.place in
    let d = c.index.result.now in
    let is = c.index.ensures in
    let items = a.nodes.now.items in
    let within : i < length items = omega (arith, c.loop-place-test.true, c.len-place-end.ensures, a.nodes.now.ok.0) in
    let left = at_drop_more (row_routes 0) items i d within in
    let count = ap (λ (rs : List Route). length rs) left ∙ length-append (node_routes 0 (get_or items i d)) (row_routes 0 (drop (i + 1) items)) in
    let here = node_length 0 (get_or items i d) in
    let same = ap (λ (x : Branch). length x.routes) is in (
      omega (arith, c.decreases, at_most size-Node items i d within, ap size-Node is),
      (
        omega (arith, c.requires.few, c.loop-place.invariant),
        (
          subst IsOrderedNode (sym is) (all_at IsOrderedNode items i d within c.requires.ordered),
          subst (λ (x : Branch). AreShort a.levels x.routes) (sym is) (all_at (λ (x : Branch). AreShort a.levels x.routes) items i d within c.requires.short),
        ),
      ),
    )

pub count_rows-count_row-count-requires : goal.count_rows-count_row-count-requires
count_rows-count_row-count-requires t c =
    let a = c.args in
    let i : ℕ = c.loop-row.row-index in
    let d = c.row-item.result in
    let within = c.loop-row-test.true in
    let rest = drop (i + 1) a.rows.now in
    let left : drop i a.rows.now ≡ d ∷ rest = drop_more a.rows.now i d within ∙ ap (λ (row : List Branch). row ∷ rest) (sym c.row-item.is) in
    let routes = ap (rows_routes 0) left in
    let count = ap (λ (rs : List Route). length rs) routes ∙ length-append (row_routes 0 d) (rows_routes 1 rest) in
    let short = subst (AreShort a.levels) routes c.loop-row.invariant.short in
    let deep = at_most size-Row a.rows.now i d within in
    let weight = ap size-Row c.row-item.is in (
      omega (arith, c.decreases),
      (omega (arith, c.requires.few, c.loop-row.invariant.counted), ((subst AreSound left c.loop-row.invariant.sound).0, all_left (λ (r : Route). length r ≤ a.levels) (row_routes 0 d) (rows_routes 1 rest) short)),
    )

pub count_rows-loop-row-preserved : goal.count_rows-loop-row-preserved
count_rows-loop-row-preserved t c =
    let a = c.args in
    let i : ℕ = c.loop-row.row-index in
    let d = c.row-item.result in
    let within = c.loop-row-test.true in
    let rest = drop (i + 1) a.rows.now in
    let left : drop i a.rows.now ≡ d ∷ rest = drop_more a.rows.now i d within ∙ ap (λ (row : List Branch). row ∷ rest) (sym c.row-item.is) in
    let routes = ap (rows_routes 0) left in
    let count = ap (λ (rs : List Route). length rs) routes ∙ length-append (row_routes 0 d) (rows_routes 1 rest) in
    let short = subst (AreShort a.levels) routes c.loop-row.invariant.short in
    record {
      counted = omega (arith, c.loop-row.invariant.counted, c.count_row-count.ensures, rows_count 1 0 rest);
      sound = (subst AreSound left c.loop-row.invariant.sound).1;
      short = short_rows a.levels 1 0 rest (all_right (λ (r : Route). length r ≤ a.levels) (row_routes 0 d) (rows_routes 1 rest) short);
    }
