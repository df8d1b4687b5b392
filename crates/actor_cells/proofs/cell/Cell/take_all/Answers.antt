use Rattle.std.proofs.Common.{arith}
use Rattle.actor_cells.specs.Lawful.{tally_of}
use Rattle.actor_cells.proofs.CellLemmas.{kept-trans}
use Rattle.actor_cells.proofs.RoundLemmas.{takes-trans}
use Rattle.actor_cells.proofs.TallyLemmas.{stay-rose}
use Rattle.actor_cells.proofs.cell.Cell.take_all.Goals as goal

pub loop-init : goal.loop-init
loop-init g c =
    let own = c.in_ok-taken.ensures in
    record { kept = own.kept; few = omega (arith, own.row); rounds = omega arith; takes = own.taken }

pub loop-preserved : goal.loop-preserved
loop-preserved g c =
    let before = c.loop.invariant in
    let step = c.in_ok-more.ensures in
    record {
      kept = kept-trans c.args.self.now c.loop.self c.take_round.new.self before.kept step.kept;
      few = omega (arith, before.few, step.few, c.if-more-left.false);
      rounds = omega (arith, before.rounds, c.if-more-eq0.false);
      takes = takes-trans (tally_of c.args.self.now) (tally_of c.loop.self) (tally_of c.take_round.new.self) c.loop.taken c.in_ok-more.more before.takes step.taken;
    }

pub returns-then-more-eq0-clause-turned : goal.returns-then-more-eq0-clause-turned
returns-then-more-eq0-clause-turned g c =
    let before = c.loop.invariant in
    let step = c.in_ok-more.ensures in
    (omega (arith, before.takes.took, before.few, step.taken.took, c.if-more-eq0.true), stay-rose (tally_of c.args.self.now) (tally_of c.loop.self) (tally_of c.take_round.new.self) before.takes.stay (step.none c.if-more-eq0.true))

pub returns-then-more-left-clause-turned : goal.returns-then-more-left-clause-turned
returns-then-more-left-clause-turned g c =
    let before = c.loop.invariant in
    let step = c.in_ok-more.ensures in
    omega (arith, before.takes.took, before.few, step.taken.took, c.if-more-left.true)
