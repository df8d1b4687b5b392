use Rattle.std.proofs.Common.{refl, sym, subst, ◌∙◌}
use Rattle.turn_lock.specs.Seats.{view_of}
use Rattle.actor_cells.specs.declared.cell.Cell.{Cell}
use Rattle.actor_cells.specs.Lawful.{cell_tag, history_of, tally_of}
use Rattle.actor_cells.specs.Served.{TakesInTurn}
use Rattle.actor_pool.specs.Helpers.{seat_of}
use Rattle.actor_pool.specs.Beside.{setting_in}
use Rattle.actor_pool.proofs.BesideLemmas.{got-fits, turn-faulted, turn-fits}
use Rattle.actor_pool.proofs.HelperLemmas.{turn-taken, turn-went, went-goes}
use Rattle.actor_pool.proofs.turning.turn_beside.Goals as goal

pub returns-in-Ok-served-clause-goes_on : goal.returns-in-Ok-served-clause-goes_on
returns-in-Ok-served-clause-goes_on g c =
    let back = c.release-asked.ensures.back in
    let went = turn-went c.args.actor c.in-Ok.held.index (seat_of c.args.helper.now) (view_of c.try_turn.new.seat) (view_of c.release-asked.new.seat)
    c.in-Ok.held.cell c.cell.result.now c.serve_and_show-served.new.cell back.0 c.in-Ok.ensures.place c.cell.ensures.value c.in-Ok.ensures.got c.in-Ok-served.ensures.kept back.2 in
    went-goes c.args.pool.now c.args.helper.now _ c.args.actor c.in-Ok.held.cell c.serve_and_show-served.new.cell c.requires.own (c.release-asked.ensures.own.0 ∙ c.in-Ok.ensures.own.0) refl went

pub returns-in-Err-served-clause-goes_on : goal.returns-in-Err-served-clause-goes_on
returns-in-Err-served-clause-goes_on g c =
    let back = c.release-asked.ensures.back in
    let went = turn-went c.args.actor c.in-Ok.held.index (seat_of c.args.helper.now) (view_of c.try_turn.new.seat) (view_of c.release-asked.new.seat)
    c.in-Ok.held.cell c.cell.result.now c.serve_and_show-served.new.cell back.0 c.in-Ok.ensures.place c.cell.ensures.value c.in-Ok.ensures.got c.in-Err-served.ensures.kept back.2 in
    went-goes c.args.pool.now c.args.helper.now _ c.args.actor c.in-Ok.held.cell c.serve_and_show-served.new.cell c.requires.own (c.release-asked.ensures.own.0 ∙ c.in-Ok.ensures.own.0) refl went

pub returns-in-Ok-served-clause-served : goal.returns-in-Ok-served-clause-served
returns-in-Ok-served-clause-served g c =
    let back = c.release-asked.ensures.back in
    record {
      found = c.in-Ok.held.cell;
      left = c.serve_and_show-served.new.cell;
      turn = turn-taken c.args.actor c.in-Ok.held.index (seat_of c.args.helper.now) (view_of c.try_turn.new.seat) (view_of c.release-asked.new.seat)
          c.in-Ok.held.cell c.cell.result.now c.serve_and_show-served.new.cell back.0 c.in-Ok.ensures.place c.cell.ensures.value c.in-Ok.ensures.got c.in-Ok-served.ensures.kept back.2;
      tallies = subst (λ (x : Cell). TakesInTurn (tally_of x) (tally_of c.serve_and_show-served.new.cell) c.in-Ok-served.turned) c.cell.ensures.value c.in-Ok-served.ensures.turned;
      sent = c.in-Ok-served.ensures.sent;
    }

pub returns-in-Err-served-clause-fault : goal.returns-in-Err-served-clause-fault
returns-in-Err-served-clause-fault g c =
    let back = c.release-asked.ensures.back in
    let turn = turn-taken c.args.actor c.in-Ok.held.index (seat_of c.args.helper.now) (view_of c.try_turn.new.seat) (view_of c.release-asked.new.seat)
    c.in-Ok.held.cell c.cell.result.now c.serve_and_show-served.new.cell back.0 c.in-Ok.ensures.place c.cell.ensures.value c.in-Ok.ensures.got c.in-Err-served.ensures.kept back.2 in
    turn-faulted g.B.Beside.wants c.args.actor (seat_of c.args.helper.now) (view_of c.release-asked.new.seat) c.in-Ok.held.cell c.serve_and_show-served.new.cell turn c.in-Err-served.ensures.refused

pub serve_and_show-served-requires-clause-fits : goal.serve_and_show-served-requires-clause-fits
serve_and_show-served-requires-clause-fits g c =
    let fits = g.B.Beside.fits in
    let got = got-fits fits g.met.B.Beside.grows c.args.beside.now c.args.actor (seat_of c.args.helper.now) (view_of c.try_turn.new.seat) c.in-Ok.held.cell c.in-Ok.ensures.got c.requires.fits in
    subst (λ (x : Cell). fits c.args.beside.now c.args.actor (setting_in (cell_tag x)) (history_of x)) (sym c.cell.ensures.value) got

pub returns-in-Ok-served-clause-fits : goal.returns-in-Ok-served-clause-fits
returns-in-Ok-served-clause-fits g c =
    let back = c.release-asked.ensures.back in
    let shown = c.serve_and_show-served.ensures in
    turn-fits g.B.Beside.fits g.met.B.Beside.grows c.args.beside.now c.serve_and_show-served.new.beside c.args.actor c.in-Ok.held.index (seat_of c.args.helper.now) (view_of c.try_turn.new.seat) (view_of c.release-asked.new.seat)
    c.in-Ok.held.cell c.cell.result.now c.serve_and_show-served.new.cell back.0 c.in-Ok.ensures.place c.cell.ensures.value c.in-Ok.ensures.got shown.kept back.2 c.release-asked.ensures.seen shown.fits shown.others c.requires.fits

pub returns-in-Err-served-clause-fits : goal.returns-in-Err-served-clause-fits
returns-in-Err-served-clause-fits g c =
    let back = c.release-asked.ensures.back in
    let shown = c.serve_and_show-served.ensures in
    turn-fits g.B.Beside.fits g.met.B.Beside.grows c.args.beside.now c.serve_and_show-served.new.beside c.args.actor c.in-Ok.held.index (seat_of c.args.helper.now) (view_of c.try_turn.new.seat) (view_of c.release-asked.new.seat)
    c.in-Ok.held.cell c.cell.result.now c.serve_and_show-served.new.cell back.0 c.in-Ok.ensures.place c.cell.ensures.value c.in-Ok.ensures.got shown.kept back.2 c.release-asked.ensures.seen shown.fits shown.others c.requires.fits
