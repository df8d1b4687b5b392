use Rattle.std.proofs.Common.{◌≡◌, take}
use Rattle.actor_turn.proofs.opening.copy_rules.Given as goal

abbrev pub invariant-loop-rule : goal.invariant-loop-rule
invariant-loop-rule l = l.copies ≡ take l.rule-index l.rule-items
