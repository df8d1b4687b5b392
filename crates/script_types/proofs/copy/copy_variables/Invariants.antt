use Rattle.std.proofs.Common.{◌≡◌, take}
use Rattle.script_types.proofs.copy.copy_variables.Given as goal

abbrev pub invariant-loop-variable : goal.invariant-loop-variable
invariant-loop-variable l = l.copied ≡ take l.variable-index l.variable-items
