use Rattle.std.proofs.Common.{◌≡◌, ◌∙◌, ℕ, List, map, ap, sym}
use Rattle.std.specs.declared.alloc.Global.{Global}
use Rattle.std.specs.declared.collections.VecDeque.{VecDeque}
use Rattle.tree_rows.specs.Routes.{Branch}
use Rattle.tree_rows.specs.Rows.{leaf}
use Rattle.tree_rows.specs.Shapes.{branches}
use Rattle.tree_rows.proofs.LeafLemmas.{leaf_numbers}
use Rattle.tree_rows.proofs.row_numbers.RowNumbers.of.Goals as goal

pub returns-in-Many : goal.returns-in-Many
returns-in-Many c =
    let row : List Branch = map leaf c.in-Many.leaves.value in
    let same : row ≡ c.args.row.now = sym (ap branches c.in-Many.is) ∙ c.row.view_is in
    let numbers : map (λ (node : Branch). node.number) row ≡ map (λ (node : Branch). node.number) c.args.row.now = ap (λ (xs : List Branch). map (λ (node : Branch). node.number) xs) same in
    c.deref-in-Many.ensures ∙ sym (leaf_numbers c.in-Many.leaves.value) ∙ numbers

pub returns-in-Leaves : goal.returns-in-Leaves
returns-in-Leaves c =
    let row : List Branch = map leaf c.in-Leaves.leaves.value.items in
    let same : row ≡ c.args.row.now = sym (ap branches c.in-Leaves.is) ∙ c.row.view_is in
    let numbers : map (λ (node : Branch). node.number) row ≡ map (λ (node : Branch). node.number) c.args.row.now = ap (λ (xs : List Branch). map (λ (node : Branch). node.number) xs) same in
    c.as_slices.ensures.items ∙ ap (λ (leaves : VecDeque ℕ Global). leaves.items) c.deref.ensures ∙ sym (leaf_numbers c.in-Leaves.leaves.value.items) ∙ numbers
