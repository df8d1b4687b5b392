use Rattle.std.proofs.Common.{drop}
use Rattle.guard_bound.proofs.BoundLemmas.{Leaves}
use Rattle.guard_bound.proofs.bound.split_of.Given as goal

abbrev pub invariant-loop-signed : goal.invariant-loop-signed
invariant-loop-signed l = Leaves l.messages l.known l.pattern l.wanted l.term (drop l.signed-index l.signed-items) l.split
