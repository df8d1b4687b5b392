use Rattle.std.proofs.Common.{ap, sym}
use Rattle.guard_eval.specs.Meaning.{is_slot_filled}
use Rattle.guard_eval.proofs.ReadyLemmas.{number_at-place}
use Rattle.guard_eval.proofs.standing.is_filled.Goals as goal

pub returns-in-Some : goal.returns-in-Some
returns-in-Some c = ap is_slot_filled (sym (number_at-place c.args.slots.now c.args.place.pattern _ c.in-Some.ensures.place))

pub returns-in-None : goal.returns-in-None
returns-in-None c = ap is_slot_filled (sym (number_at-place c.args.slots.now c.args.place.pattern _ c.in-None.ensures.place))
