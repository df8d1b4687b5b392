use Rattle.std.proofs.Common.{◌≡◌, take}
use Rattle.script_types.proofs.copy.copy_patterns.Given as goal

abbrev pub invariant-loop-variables : goal.invariant-loop-variables
invariant-loop-variables l = l.copied ≡ take l.variables-index l.variables-items
