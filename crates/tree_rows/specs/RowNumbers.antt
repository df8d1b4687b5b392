-- The numbers of a row's nodes, in whatever form they stand.
use Rattle.std.specs.Prelude.{ℕ, List, ◌++◌, map}
use Rattle.tree_rows.specs.declared.row_numbers.RowNumbers.{RowNumbers}
use Rattle.tree_rows.specs.declared.row_numbers.RowNumbers.TheVariants.{Leaves, Many, Nodes}

abbrev pub numbers_in : RowNumbers → List ℕ
numbers_in (Leaves front back) = front.now ++ back.now
numbers_in (Many leaves) = leaves.now
numbers_in (Nodes nodes) = map (λ node. node.number) nodes.now.items
