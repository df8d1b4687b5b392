use Rattle.std.proofs.Common.{◌≡◌, ◌+◌, ◌-◌, ◌^◌, ◌≤◌, min, drop, take}
use Rattle.std.specs.List.{AllByRecursion}
use Rattle.tree_law.specs.Trees.{HasOnce, path_count}
use Rattle.tree_law.proofs.trees.count_paths.Given as goal

abbrev pub invariant-loop-tree : goal.invariant-loop-tree
invariant-loop-tree l = record {
  count : min (l.count + path_count (drop l.tree-index l.trees)) (2 ^ 64 - 1) ≡ min (path_count l.trees) (2 ^ 64 - 1);
  small : l.count ≤ 2 ^ 64 - 1;
  once : AllByRecursion HasOnce (take l.tree-index l.trees);
}
