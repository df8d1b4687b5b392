use Rattle.std.proofs.Common.{◌≡◌, take}
use Rattle.script_types.proofs.copy.copy_body.Given as goal

abbrev pub invariant-loop-statement : goal.invariant-loop-statement
invariant-loop-statement l = l.copied ≡ take l.statement-index l.statement-items
