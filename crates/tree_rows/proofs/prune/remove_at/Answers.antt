use Rattle.std.proofs.Common.{◌≡◌, ◌∙◌, List, ℕ, length, map, sym, ap, arith}
use Rattle.std.specs.declared.collections.VecDeque.{VecDeque}
use Rattle.std.specs.declared.alloc.Global.{Global}
use Rattle.std.specs.List.{remove}
use Rattle.std.proofs.lemmas.List.{length-map, get_or_default}
use Rattle.tree_rows.specs.Rows.{leaf, node_at}
use Rattle.tree_rows.specs.Routes.{Route, Branch, row_routes}
use Rattle.tree_rows.specs.Shapes.{branches}
use Rattle.tree_rows.proofs.LeafLemmas.{leaves_remove, leaf_routes}
use Rattle.tree_rows.proofs.CountLemmas.{count_without}
use Rattle.tree_rows.proofs.prune.remove_at.Goals as goal

pub returns-in-Leaves-clause-left : goal.returns-in-Leaves-clause-left
returns-in-Leaves-clause-left c =
    let place : ℕ = c.args.place in
    let leaves = c.in-Leaves.leaves.value in
    let is : map leaf leaves.items ≡ c.args.row.now = sym (ap branches c.in-Leaves.is) ∙ c.row.view_is in
    let same : c.deref_mut.result.now.items ≡ leaves.items = ap (λ (v : VecDeque ℕ Global). v.items) c.deref_mut.ensures.value in
    let long = ap (λ (xs : List Branch). length xs) is in
    ap (map leaf) (c.remove_leaf.ensures ∙ ap (λ (ns : List ℕ). remove ns place) same) ∙ leaves_remove leaves.items place ∙ ap (λ (xs : List Branch). remove xs place) is

pub returns-in-Leaves-clause-gone : goal.returns-in-Leaves-clause-gone
returns-in-Leaves-clause-gone c =
    let row = c.args.row.now in
    let place : ℕ = c.args.place in
    let leaves = c.in-Leaves.leaves.value in
    let is : map leaf leaves.items ≡ row = sym (ap branches c.in-Leaves.is) ∙ c.row.view_is in
    let node : Branch = node_at row place in
    let none = leaf_routes leaves.items place row is in
    let count = count_without row place node c.requires.within (get_or_default row place (leaf 0) node c.requires.within) in
    let left = ap (λ (xs : List Branch). length (row_routes 0 xs)) (returns-in-Leaves-clause-left c) in
    omega (arith, ap (λ (rs : List Route). length rs) none)

pub remove_leaf-requires : goal.remove_leaf-requires
remove_leaf-requires c =
    let leaves = c.in-Leaves.leaves.value in
    let is : map leaf leaves.items ≡ c.args.row.now = sym (ap branches c.in-Leaves.is) ∙ c.row.view_is in
    let same : c.deref_mut.result.now.items ≡ leaves.items = ap (λ (v : VecDeque ℕ Global). v.items) c.deref_mut.ensures.value in
    omega (arith, c.requires.within, length-map leaves.items leaf, ap (λ (xs : List Branch). length xs) is, ap (λ (ns : List ℕ). length ns) same)

pub returns-in-Many-clause-left : goal.returns-in-Many-clause-left
returns-in-Many-clause-left c =
    let place : ℕ = c.args.place in
    let leaves : List ℕ = c.in-Many.leaves.value in
    let is : map leaf leaves ≡ c.args.row.now = sym (ap branches c.in-Many.is) ∙ c.row.view_is in
    ap (map leaf) (c.remove.ensures ∙ ap (λ (ns : List ℕ). remove ns place) c.deref_mut-in-Many.ensures.value) ∙ leaves_remove leaves place ∙ ap (λ (xs : List Branch). remove xs place) is

pub returns-in-Many-clause-gone : goal.returns-in-Many-clause-gone
returns-in-Many-clause-gone c =
    let row = c.args.row.now in
    let place : ℕ = c.args.place in
    let leaves : List ℕ = c.in-Many.leaves.value in
    let is : map leaf leaves ≡ row = sym (ap branches c.in-Many.is) ∙ c.row.view_is in
    let node : Branch = node_at row place in
    let none = leaf_routes leaves place row is in
    let count = count_without row place node c.requires.within (get_or_default row place (leaf 0) node c.requires.within) in
    let left = ap (λ (xs : List Branch). length (row_routes 0 xs)) (returns-in-Many-clause-left c) in
    omega (arith, ap (λ (rs : List Route). length rs) none)

pub remove-requires : goal.remove-requires
remove-requires c =
    let leaves : List ℕ = c.in-Many.leaves.value in
    let is : map leaf leaves ≡ c.args.row.now = sym (ap branches c.in-Many.is) ∙ c.row.view_is in
    omega (arith, c.requires.within, length-map leaves leaf, ap (λ (xs : List Branch). length xs) is, ap (λ (ns : List ℕ). length ns) c.deref_mut-in-Many.ensures.value)
