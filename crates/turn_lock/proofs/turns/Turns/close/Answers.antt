use Rattle.std.proofs.Common.{arith, map, ◌<◌, length, sym, ap, ◌∙◌, subst}
use mathlib.Core.Option.{some-injective}
use Rattle.turn_lock.specs.Steps.{AreBack}
use Rattle.turn_lock.proofs.Lanes.{in_range}
use Rattle.turn_lock.proofs.Opening.{back_same, same_cell}
use Rattle.turn_lock.proofs.Ruled.{closes, accounts_alone}
use Rattle.turn_lock.proofs.turns.Turns.close.Goals as goal

pub unload-cells-requires-clause-home : goal.unload-cells-requires-clause-home
unload-cells-requires-clause-home g c k lt =
    let z = c.args.self in
    let s = c.args.seat in
    let out = closes g.row.C-Tally.Denot g.C.TurnCell.tag g.C.TurnCell.lawful g.C.TurnCell.history (map g.C.TurnCell.tag z.table.shared.key.value.items) s.seat.id s.seat.me.0 _ _ c.requires.first c.requires.free c.close_with.ensures.values.2 in
    let sized = c.close_with.ensures.counts.1 in
    let items = c.close_with.result.slots.ok.0 in
    let at = out.1 k (omega (arith, out.0)) in
    (at.0, at.1)

pub returns-clause-accounted : goal.returns-clause-accounted
returns-clause-accounted g c i lt =
    let z = c.args.self in
    let s = c.args.seat in
    let out = closes g.row.C-Tally.Denot g.C.TurnCell.tag g.C.TurnCell.lawful g.C.TurnCell.history (map g.C.TurnCell.tag z.table.shared.key.value.items) s.seat.id s.seat.me.0 _ _ c.requires.first c.requires.free c.close_with.ensures.values.2 in
    let sized = c.close_with.ensures.counts.1 in
    let items = c.close_with.result.slots.ok.0 in
    let count = c.unload-cells.ensures.count in
    let same = ap length c.from_vec.ensures.same in
    accounts_alone g.row.C-Tally.Denot g.C.TurnCell.tag g.C.TurnCell.lawful g.C.TurnCell.history (map g.C.TurnCell.tag z.table.shared.key.value.items) s.seat.id s.seat.me.0 _ _ c.requires.first c.close_with.ensures.values.2 i (omega (arith, out.0))

pub returns-clause-back : goal.returns-clause-back
returns-clause-back g c =
    let z = c.args.self in
    let s = c.args.seat in
    let out = closes g.row.C-Tally.Denot g.C.TurnCell.tag g.C.TurnCell.lawful g.C.TurnCell.history (map g.C.TurnCell.tag z.table.shared.key.value.items) s.seat.id s.seat.me.0 _ _ c.requires.first c.requires.free c.close_with.ensures.values.2 in
    let items = c.close_with.result.slots.ok.0 in
    let wide = s.wide in
    let own = ap (λ t. t.slots) c.requires.own in
    let sized = c.close_with.ensures.counts.1 in
    let count = c.unload-cells.ensures.count in
    let back : AreBack g.C.TurnCell.tag g.C.TurnCell.lawful g.C.TurnCell.history s.seat.me.0 c.unload-cells.result.items = (
      omega arith,
      λ i d e.
          let there = c.unload-cells.ensures.cells i d e in
          let lt : i < length c.unload-cells.result.items = in_range c.unload-cells.result.items i d e in
          let at = out.1 i (omega (arith, out.0)) in
          let same = back_same d at.0 (some-injective _ _ (sym there ∙ at.1)) in
          same_cell g.C.TurnCell.tag g.C.TurnCell.lawful g.C.TurnCell.history s.seat.me.0 i at.0 d same (at.2, at.3, at.4.0),
    ) in
    subst (λ l. AreBack g.C.TurnCell.tag g.C.TurnCell.lawful g.C.TurnCell.history s.seat.me.0 l) (sym c.from_vec.ensures.same) back
