-- What the two shapes of a node have in common, its number and the rows behind it, and what the forms of a row have in common, its nodes.
use Rattle.std.specs.Prelude.{ℕ, List, [], ◌∷◌, map}
use Rattle.tree_rows.specs.Routes.{Branch}
use Rattle.tree_rows.specs.Rows.{leaf}
use Rattle.tree_rows.specs.declared.node.Shape.{Shape}
use Rattle.tree_rows.specs.declared.node.Shape.TheVariants.{Leaf, Inner}
use Rattle.tree_rows.specs.declared.row.Nodes.{Nodes}
use Rattle.tree_rows.specs.declared.row.Nodes.TheVariants.{Empty, One, Leaves, Many, Mixed}

abbrev pub number_of : Shape → ℕ
number_of (Leaf number) = number
number_of (Inner number rows) = number

-- a leaf has none
abbrev pub rows_behind : Shape → List (List Branch)
rows_behind (Leaf number) = []
rows_behind (Inner number rows) = rows.value.items

abbrev pub branches : Nodes → List Branch
branches Empty = []
branches (One number) = leaf number ∷ []
branches (Leaves numbers) = map leaf numbers.value.items
branches (Many numbers) = map leaf numbers.value
branches (Mixed nodes) = nodes.value.items
