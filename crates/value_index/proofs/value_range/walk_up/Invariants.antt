use Rattle.std.proofs.Common.{◌∷◌}
use Rattle.value_index.specs.ValueRange.{Ascend}
use Rattle.value_index.proofs.value_range.walk_up.Given as goal

-- the numbers ascend if those from the last one on do
abbrev pub invariant-loop : goal.invariant-loop
invariant-loop l = Ascend (l.last ∷ l.left) → Ascend l.fn.left
