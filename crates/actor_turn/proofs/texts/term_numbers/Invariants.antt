use Rattle.std.proofs.Common.{take}
use Rattle.std.specs.List.{AllByRecursion}
use Rattle.guard_eval.specs.declared.term.Signed.{Signed}
use Rattle.fair_semantics.specs.Fits.{LeafFits}
use Rattle.actor_turn.proofs.texts.term_numbers.Given as goal

abbrev pub invariant-loop-signed : goal.invariant-loop-signed
invariant-loop-signed l = AllByRecursion (λ (s : Signed). LeafFits s.leaf) (take l.signed-index l.signed-items)
