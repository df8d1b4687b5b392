use Rattle.std.proofs.Common.{◌∙◌, sym}
use Rattle.pattern_core.proofs.SuitsLemmas.{length-SlotsSuit}
use Rattle.waiting_reasons.proofs.patterns.write_untrue.Goals as goal

pub write_false-requires : goal.write_false-requires
write_false-requires c = length-SlotsSuit c.args.messages.now c.args.rule.now.definition.patterns c.args.slots.now c.requires.suits ∙ sym c.len-patterns.ensures.count
