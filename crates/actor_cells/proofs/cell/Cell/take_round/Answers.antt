use Rattle.std.proofs.Common.{arith}
use Rattle.actor_cells.proofs.RoundLemmas.{place-within, round-end, round-first, round-more}
use Rattle.actor_cells.proofs.cell.Cell.take_round.Goals as goal

pub loop-place-init : goal.loop-place-init
loop-place-init g c = round-first c.args.self.now c.args.most c.requires.lawful

pub take_at-requires-clause-within : goal.take_at-requires-clause-within
take_at-requires-clause-within g c = (place-within c.args.self.now c.loop-place.self c.args.most c.loop-place.place c.loop-place.taken c.loop-place.invariant (omega (arith, c.loop-place-test.true, c.len-place-end.ensures, c.args.self.now.inward.ok.0))).0

pub take_at-requires-clause-lawful : goal.take_at-requires-clause-lawful
take_at-requires-clause-lawful g c = c.loop-place.invariant.kept.lawful

pub loop-place-preserved : goal.loop-place-preserved
loop-place-preserved g c =
    let before = c.loop-place.invariant in
    let step = c.in_ok-taken.ensures in
    let within = (place-within c.args.self.now c.loop-place.self c.args.most c.loop-place.place c.loop-place.taken before (omega (arith, c.loop-place-test.true, c.len-place-end.ensures, c.args.self.now.inward.ok.0))).1 in
    round-more c.args.self.now c.loop-place.self c.take_at.new.self c.args.most c.loop-place.place c.loop-place.taken c.in_ok-taken.field-0 before within (omega (arith, before.few, step.few)) step.kept step.taken step.none

pub returns-clause-none : goal.returns-clause-none
returns-clause-none g c = round-end c.args.self.now c.loop-place.self c.args.most c.loop-place.place c.loop-place.taken c.loop-place.invariant (omega (arith, c.loop-place-test.false, c.len-place-end.ensures, c.args.self.now.inward.ok.0))
