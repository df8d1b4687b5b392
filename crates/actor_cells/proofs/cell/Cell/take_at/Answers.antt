use Rattle.actor_cells.specs.Lawful.{tally_of}
use Rattle.actor_cells.proofs.RoundLemmas.{takes-behind, takes-look, tallied-none, tallied-one, tally-within}
use Rattle.actor_cells.proofs.cell.Cell.take_at.Goals as goal

pub returns-then-not-branch-clause-taken : goal.returns-then-not-branch-clause-taken
returns-then-not-branch-clause-taken g c =
    takes-look (tally_of c.args.self.now) (tally_of c.bring_and_send.new.self) c.args.place
    (tallied-none (tally_of c.args.self.now) (tally_of c.bring_and_send.new.self) c.args.place c.in_ok-bring_and_send.field-0 c.if-not-branch.true c.in_ok-bring_and_send.ensures.tally)

pub returns-clause-taken : goal.returns-clause-taken
returns-clause-taken g c =
    let one = tallied-one (tally_of c.args.self.now) (tally_of c.bring_and_send.new.self) c.args.place c.in_ok-bring_and_send.field-0 c.if-not-branch.false c.in_ok-bring_and_send.ensures.tally in
    takes-behind (tally_of c.args.self.now) (tally_of c.bring_and_send.new.self) (tally_of c.take_own.new.self) c.args.place c.in_ok-own.own (tally-within c.args.self.now c.args.place c.requires.within) one c.in_ok-own.ensures.taken
