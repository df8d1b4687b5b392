use Rattle.std.proofs.Common.{rules, arith, map, ◌<◌, length, ap}
use Rattle.turn_lock.proofs.Lanes.{in_range}
use Rattle.turn_lock.proofs.Ruled.{releases_in}
use Rattle.turn_lock.proofs.turns.Turns.release.Goals as goal

pub fetch_and-word-requires : goal.fetch_and-word-requires
fetch_and-word-requires g c =
    let z = c.args.self.now in
    let s = c.args.seat.now in
    let i = c.args.held.index in
    let may = c.requires.turn in
    let inside : i < length s.seat.me.0.tags = in_range s.seat.me.0.tags i _ may.1 in
    let wide = s.wide in
    let sized = z.sized in
    let same = ap (λ t. t.slots) c.requires.own in (
      search rules,
      omega arith,
      releases_in g.C.TurnCell.tag g.C.TurnCell.lawful g.C.TurnCell.history g.C.TurnCell.tally (map g.C.TurnCell.tag z.table.shared.key.value.items) _ _ s.seat.me c.exchange.new.seat.me i c.args.held.cell (omega arith) s.carries s.live may c.exchange.ensures.3,
    )
