use Rattle.std.proofs.Common.{◌∙◌, sym}
use Rattle.pattern_core.proofs.SuitsLemmas.{length-SlotsSuit}
use Rattle.row_screens.proofs.trial.candidate.Goals as goal

pub taken-requires-clause-count : goal.taken-requires-clause-count
taken-requires-clause-count c =
    length-SlotsSuit c.args.offer.now.messages.now c.args.offer.now.definition.now.patterns c.args.slots.now c.requires.suits ∙ sym c.len.ensures.count
