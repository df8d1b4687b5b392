use Rattle.std.proofs.Common.{arith}
use Rattle.actor_cells.specs.Lawful.{tally_of}
use Rattle.actor_cells.proofs.CellLemmas.{kept-trans}
use Rattle.actor_cells.proofs.RoundLemmas.{own-end, own-first, own-more, takes-none, tallied-none, tallied-one}
use Rattle.actor_cells.proofs.cell.Cell.take_own.Goals as goal

pub returns-then-place-len-clause-taken : goal.returns-then-place-len-clause-taken
returns-then-place-len-clause-taken g c = takes-none (tally_of c.args.self.now)

pub loop-taken-init : goal.loop-taken-init
loop-taken-init g c = own-first c.args.self.now c.args.self.now.own c.requires.lawful (omega (arith, c.if-place-len.false, c.len.ensures, c.args.self.now.inward.ok.0))

pub returns-in_err-bring_and_send-clause-kept : goal.returns-in_err-bring_and_send-clause-kept
returns-in_err-bring_and_send-clause-kept g c = kept-trans c.args.self.now c.loop-taken.self c.bring_and_send.new.self c.loop-taken.invariant.kept c.in_err-bring_and_send.ensures.kept

pub returns-then-not-branch-clause-kept : goal.returns-then-not-branch-clause-kept
returns-then-not-branch-clause-kept g c = kept-trans c.args.self.now c.loop-taken.self c.bring_and_send.new.self c.loop-taken.invariant.kept c.in_ok-bring_and_send.ensures.kept

pub returns-then-not-branch-clause-taken : goal.returns-then-not-branch-clause-taken
returns-then-not-branch-clause-taken g c =
    let none = tallied-none (tally_of c.loop-taken.self) (tally_of c.bring_and_send.new.self) c.args.self.now.own c.in_ok-bring_and_send.field-0 c.if-not-branch.true c.in_ok-bring_and_send.ensures.tally in
    own-end c.args.self.now c.loop-taken.self c.bring_and_send.new.self c.args.self.now.own c.loop-taken.taken c.loop-taken.invariant none

pub loop-taken-preserved : goal.loop-taken-preserved
loop-taken-preserved g c =
    let one = tallied-one (tally_of c.loop-taken.self) (tally_of c.bring_and_send.new.self) c.args.self.now.own c.in_ok-bring_and_send.field-0 c.if-not-branch.false c.in_ok-bring_and_send.ensures.tally in
    own-more c.args.self.now c.loop-taken.self c.bring_and_send.new.self c.args.self.now.own c.loop-taken.taken c.loop-taken.invariant c.in_ok-bring_and_send.ensures.kept one
