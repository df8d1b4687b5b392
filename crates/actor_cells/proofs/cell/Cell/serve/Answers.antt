use Rattle.std.proofs.Common.{sym, subst, List, ◌∙◌}
use Rattle.actor_cells.specs.declared.cell.LinkTally.{LinkTally}
use Rattle.actor_cells.specs.Served.{TakesInTurn}
use Rattle.actor_cells.proofs.CellLemmas.{kept-trans}
use Rattle.actor_cells.proofs.RoundLemmas.{same-tally}
use Rattle.actor_cells.proofs.cell.Cell.serve.Goals as goal

pub returns-clause-kept : goal.returns-clause-kept
returns-clause-kept g c =
    let first = kept-trans c.args.self.now c.note.new.self c.send_rest.new.self c.note.ensures.kept c.send_rest.ensures.kept in
    kept-trans c.args.self.now c.send_rest.new.self c.send.new.self first (kept-trans c.send_rest.new.self c.take_all.new.self c.send.new.self c.in_ok-turned.ensures.kept c.send.ensures.kept)

pub returns-clause-turned : goal.returns-clause-turned
returns-clause-turned g c =
    let first = same-tally c.args.self.now c.send_rest.new.self (c.send_rest.ensures.inward ∙ c.note.ensures.inward) in
    let last = same-tally c.take_all.new.self c.send.new.self c.send.ensures.inward in
    subst (λ (x : List LinkTally × List LinkTally). TakesInTurn x.0 x.1 c.in_ok-turned.turned) (λ i. (first i, sym last i)) c.in_ok-turned.ensures.turned

pub returns-in_err-turned-clause-kept : goal.returns-in_err-turned-clause-kept
returns-in_err-turned-clause-kept g c =
    kept-trans c.args.self.now c.send_rest.new.self c.take_all.new.self (kept-trans c.args.self.now c.note.new.self c.send_rest.new.self c.note.ensures.kept c.send_rest.ensures.kept) c.in_err-turned.ensures.kept
