use Rattle.std.proofs.Common.{◌<◌, length, arith}
use Rattle.tree_rows.proofs.LeafLemmas.{number_found, number_missing}
use Rattle.tree_rows.proofs.row.place_among.Goals as goal

pub returns-in-Ok : goal.returns-in-Ok
returns-in-Ok c =
    let leaves = c.args.leaves.now in
    let within : c.in-Ok.place < length leaves.items = omega (arith, c.in-Ok.ensures.bound, leaves.ok.0) in
    (within, number_found leaves.items c.args.number c.in-Ok.place c.in-Ok.ensures.position)

pub returns-in-Err : goal.returns-in-Err
returns-in-Err c =
    let leaves = c.args.leaves.now in
    number_missing leaves.items c.args.number _ c.requires (omega (arith, c.in-Err.ensures.bound, leaves.ok.0)) c.in-Err.ensures.position
