use Rattle.std.proofs.Common.{take}
use Rattle.std.specs.List.{AllByRecursion}
use Rattle.fair_semantics.specs.Fits.{StatementFits}
use Rattle.actor_turn.proofs.texts.body_texts.Given as goal

abbrev pub invariant-loop-statement : goal.invariant-loop-statement
invariant-loop-statement l = AllByRecursion StatementFits (take l.statement-index l.statement-items)
