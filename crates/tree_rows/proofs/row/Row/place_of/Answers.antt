use Rattle.std.proofs.Common.{◌≡◌, ◌≢◌, ◌∙◌, ◌<◌, List, ℕ, length, map, get_or, sym, ap, subst}
use Rattle.std.specs.declared.collections.VecDeque.{VecDeque}
use Rattle.std.specs.declared.alloc.Global.{Global}
use Rattle.std.specs.Prelude.{MatchOption}
use Rattle.std.specs.List.{AllByRecursion}
use Rattle.tree_rows.specs.declared.node.Node.{Node}
use Rattle.tree_rows.specs.Order.{Rise}
use Rattle.tree_rows.specs.Rows.{leaf}
use Rattle.tree_rows.specs.Routes.{Branch}
use Rattle.tree_rows.specs.Shapes.{branches}
use Rattle.tree_rows.proofs.LeafLemmas.{leaf_numbers, leaf_place}
use Rattle.tree_rows.proofs.row.Row.place_of.Goals as goal

pub place_of_leaf-requires : goal.place_of_leaf-requires
place_of_leaf-requires c =
    let leaves = c.in-Leaves.leaves.value in
    let is : map leaf leaves.items ≡ c.args.self.now = sym (ap branches c.in-Leaves.is) ∙ c.self.view_is in
    let same : leaves.items ≡ c.deref.result.now.items = ap (λ (v : VecDeque ℕ Global). v.items) (sym c.deref.ensures) in
    subst Rise (ap (map (λ (node : Branch). node.number)) (sym is) ∙ leaf_numbers leaves.items ∙ same) c.requires

pub returns-in-Leaves : goal.returns-in-Leaves
returns-in-Leaves c =
    let n : ℕ = c.args.number in
    let items = c.deref.result.now.items in
    let is : map leaf items ≡ c.args.self.now = ap (λ (v : VecDeque ℕ Global). map leaf v.items) c.deref.ensures ∙ sym (ap branches c.in-Leaves.is) ∙ c.self.view_is in
    let At : List Branch → Type 0 = λ xs. MatchOption c.place_of_leaf.result (AllByRecursion (λ node. node.number ≢ n) xs) (λ i. (i < length xs) × ((d : Branch) → (get_or xs i d).number ≡ n)) in
    subst At is (leaf_place items n c.place_of_leaf.result c.place_of_leaf.ensures)

pub returns-in-Mixed : goal.returns-in-Mixed
returns-in-Mixed c =
    let n : ℕ = c.args.number in
    let is : c.deref-in-Mixed.result.now.items ≡ c.args.self.now = ap (λ (v : VecDeque Node Global). v.items) c.deref-in-Mixed.ensures ∙ sym (ap branches c.in-Mixed.is) ∙ c.self.view_is in
    let At : List Branch → Type 0 = λ xs. MatchOption c.place_of_node.result (AllByRecursion (λ node. node.number ≢ n) xs) (λ i. (i < length xs) × ((d : Branch) → (get_or xs i d).number ≡ n)) in
    subst At is c.place_of_node.ensures

pub place_of_tiered-requires : goal.place_of_tiered-requires
place_of_tiered-requires c =
    let leaves : List ℕ = c.in-Many.leaves.value in
    let is : map leaf leaves ≡ c.args.self.now = sym (ap branches c.in-Many.is) ∙ c.self.view_is in
    subst Rise (ap (map (λ (node : Branch). node.number)) (sym is) ∙ leaf_numbers leaves ∙ sym c.deref-in-Many.ensures) c.requires

pub returns-in-Many : goal.returns-in-Many
returns-in-Many c =
    let n : ℕ = c.args.number in
    let items : List ℕ = c.deref-in-Many.result.now in
    let is : map leaf items ≡ c.args.self.now = ap (map leaf) c.deref-in-Many.ensures ∙ sym (ap branches c.in-Many.is) ∙ c.self.view_is in
    let At : List Branch → Type 0 = λ xs. MatchOption c.place_of_tiered.result (AllByRecursion (λ node. node.number ≢ n) xs) (λ i. (i < length xs) × ((d : Branch) → (get_or xs i d).number ≡ n)) in
    subst At is (leaf_place items n c.place_of_tiered.result c.place_of_tiered.ensures)
