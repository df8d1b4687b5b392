use Rattle.std.proofs.Common.{◌∙◌, sym}
use Rattle.pattern_core.proofs.SuitsLemmas.{length-SlotsSuit}
use Rattle.waiting_reasons.proofs.patterns.write_full.Goals as goal

pub is_full-requires : goal.is_full-requires
is_full-requires c = length-SlotsSuit c.args.messages.now c.args.rule.now.definition.patterns c.args.slots.now c.requires.suits ∙ sym c.len.ensures.count
