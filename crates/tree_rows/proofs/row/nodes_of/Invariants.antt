use Rattle.std.proofs.Common.{◌≡◌, map, take}
use Rattle.tree_rows.specs.Rows.{leaf}
use Rattle.tree_rows.specs.RowNumbers.{numbers_in}
use Rattle.tree_rows.proofs.row.nodes_of.Given as goal

-- so many leaves are nodes
abbrev pub invariant-loop-place : goal.invariant-loop-place
invariant-loop-place l = l.nodes.items ≡ map leaf (take l.place (numbers_in l.numbers))
