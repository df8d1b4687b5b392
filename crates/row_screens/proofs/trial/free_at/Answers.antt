use Rattle.std.proofs.Common.{ap, slice_get}
use Rattle.row_screens.specs.Trial.{free_of}
use Rattle.row_screens.proofs.FreeLemmas.{same_slot}
use Rattle.row_screens.proofs.trial.free_at.Goals as goal

pub returns-in-Some : goal.returns-in-Some
returns-in-Some c = λ slot at. ap free_of (same_slot (slice_get c.args.slots.now c.args.pattern) _ slot c.in-Some.ensures.place at)

pub returns-in-None : goal.returns-in-None
returns-in-None c = λ slot at. ap free_of (same_slot (slice_get c.args.slots.now c.args.pattern) _ slot c.in-None.ensures.place at)
