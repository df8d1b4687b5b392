use Rattle.std.proofs.Common.{◌∙◌, sym}
use Rattle.waiting_reasons.proofs.SlotLemmas.{held_here, held_later}
use Rattle.waiting_reasons.proofs.slots.has_number.Goals as goal

pub returns-then-slot_is : goal.returns-then-slot_is
returns-then-slot_is c =
    sym (sym c.loop-pattern.invariant ∙ held_here c.args.slots.now c.loop-pattern.pattern c.args.number c.get.result c.get.ensures.place (sym c.slot_is.ensures ∙ c.if-slot_is.true))

pub loop-pattern-preserved : goal.loop-pattern-preserved
loop-pattern-preserved c =
    held_later c.args.slots.now c.loop-pattern.pattern c.args.number c.get.result c.get.ensures.place (sym c.slot_is.ensures ∙ c.if-slot_is.false) ∙ c.loop-pattern.invariant
