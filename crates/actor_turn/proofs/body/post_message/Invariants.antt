use Rattle.std.proofs.Common.{◌≡◌, take, map}
use Rattle.fair_semantics.specs.Body.{posted_value}
use Rattle.actor_turn.proofs.body.post_message.Given as goal

abbrev pub invariant-loop-operand : goal.invariant-loop-operand
invariant-loop-operand l = l.fields ≡ map (posted_value l.messages l.slots) (take l.operand-index l.operand-items)
