use Rattle.std.proofs.Common.{take}
use Rattle.std.specs.List.{AllByRecursion}
use Rattle.fair_semantics.specs.Fits.{RuleFits}
use Rattle.actor_turn.proofs.texts.rule_texts.Given as goal

abbrev pub invariant-loop-rule : goal.invariant-loop-rule
invariant-loop-rule l = AllByRecursion RuleFits (take l.rule-index l.rule-items)
