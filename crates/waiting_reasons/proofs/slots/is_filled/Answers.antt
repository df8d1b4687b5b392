use Rattle.std.proofs.Common.{ap, sym}
use Rattle.guard_eval.specs.Meaning.{is_slot_filled}
use Rattle.guard_eval.proofs.ReadyLemmas.{number_at-place}
use Rattle.waiting_reasons.proofs.slots.is_filled.Goals as goal

pub returns-in-Some-clause-filled : goal.returns-in-Some-clause-filled
returns-in-Some-clause-filled c = ap is_slot_filled (sym (number_at-place c.args.slots.now c.args.place _ c.in-Some.ensures.place))

pub returns-in-None-clause-filled : goal.returns-in-None-clause-filled
returns-in-None-clause-filled c = ap is_slot_filled (sym (number_at-place c.args.slots.now c.args.place _ c.in-None.ensures.place))
