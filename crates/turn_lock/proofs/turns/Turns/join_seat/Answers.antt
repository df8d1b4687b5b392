use Rattle.std.proofs.Common.{rules, map, ap, ◌∙◌}
use Rattle.turn_lock.specs.View.{carried_of}
use Rattle.turn_lock.proofs.Joining.{join_tells, joining_lives}
use Rattle.turn_lock.proofs.Ruled.{joins, settles}
use Rattle.turn_lock.proofs.turns.Turns.join_seat.Goals as goal

pub join_seat-requires : goal.join_seat-requires
join_seat-requires g c = let z = c.args.self.now in (
  search rules,
  search rules,
  c.args.other.carries ∙ ap carried_of c.requires.free.1,
  search rules,
  joins g.row.C-Tally.Denot g.C.TurnCell.tag g.C.TurnCell.lawful g.C.TurnCell.history (map g.C.TurnCell.tag z.table.shared.key.value.items) _ _ _ _ c.requires.first.0 c.requires.first.1 c.requires.free.0 c.requires.other c.requires.free.1,
)

pub load-requires : goal.load-requires
load-requires g c = let z = c.args.self.now in (
  search rules,
  search rules,
  settles g.row.C-Tally.Denot g.C.TurnCell.tag g.C.TurnCell.lawful g.C.TurnCell.history (map g.C.TurnCell.tag z.table.shared.key.value.items) _ _ _ (search rules) (joining_lives c.args.seat.now.seat.me.0 c.args.other.seat.me.0 _ c.join_seat.new.seat.me c.requires.first.0 c.requires.first.1 c.join_seat.ensures.2),
)

pub returns-clause-view : goal.returns-clause-view
returns-clause-view g c = (join_tells c.args.seat.now.seat.me.0 c.args.other.seat.me.0 _ c.join_seat.new.seat.me c.load.new.seat.me c.requires.first.0 c.requires.first.1 c.join_seat.ensures.2 c.load.ensures.2).0

pub returns-clause-seen : goal.returns-clause-seen
returns-clause-seen g c = (join_tells c.args.seat.now.seat.me.0 c.args.other.seat.me.0 _ c.join_seat.new.seat.me c.load.new.seat.me c.requires.first.0 c.requires.first.1 c.join_seat.ensures.2 c.load.ensures.2).1

pub returns-clause-out : goal.returns-clause-out
returns-clause-out g c = (join_tells c.args.seat.now.seat.me.0 c.args.other.seat.me.0 _ c.join_seat.new.seat.me c.load.new.seat.me c.requires.first.0 c.requires.first.1 c.join_seat.ensures.2 c.load.ensures.2).2
