use Rattle.std.proofs.Common.{arith}
use Rattle.pattern_core.proofs.SuitsLemmas.{length-SlotsSuit}
use Rattle.pattern_core.proofs.extend.complete.Goals as goal

pub is_full-requires : goal.is_full-requires
is_full-requires c = omega (arith, length-SlotsSuit c.args.messages.now c.args.definition.now.patterns c.args.slots.now c.requires.suits)
