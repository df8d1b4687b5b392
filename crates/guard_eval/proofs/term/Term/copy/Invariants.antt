use Rattle.std.proofs.Common.{◌≡◌, take}
use Rattle.guard_eval.proofs.term.Term.copy.Given as goal

abbrev pub invariant-loop-signed : goal.invariant-loop-signed
invariant-loop-signed l = l.leaves.items ≡ take l.signed-index l.signed-items
