use Rattle.pool_settling.proofs.StartLemmas.{can_drain, then_drained}
use Rattle.pool_settling.proofs.draining.drain_links.Goals as goal

pub drain_all-requires : goal.drain_all-requires
drain_all-requires g c =
    let feeds = c.in_ok-take_posters.ensures.senders in
    let ends = c.in_ok-take_cells.ensures in
    let can = can_drain c.args.posters.items c.args.cells.items c.requires.wired c.requires.lawful _ _ _ _ _ _ _ c.new-senders.ensures.items feeds ends.senders c.new-receivers.ensures.items ends.receivers c.new-actors.ensures.items ends.actors in
    record { wired = can.0; standing = can.1 }

pub returns : goal.returns
returns g c =
    let feeds = c.in_ok-take_posters.ensures.senders in
    let ends = c.in_ok-take_cells.ensures in
    let all = c.in_ok-drain_all.ensures in
    record {
      drained = then_drained c.args.posters.items c.args.cells.items c.requires.wired c.requires.lawful _ _ _ _ _ _ _ c.new-senders.ensures.items feeds ends.senders c.new-receivers.ensures.items ends.receivers c.new-actors.ensures.items ends.actors _ _
          all.keys all.drained all.standing all.on all.given;
    }
