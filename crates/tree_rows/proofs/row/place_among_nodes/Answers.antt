use Rattle.std.proofs.Common.{◌<◌, length, arith, rules}
use Rattle.std.proofs.lemmas.List.Sorted.{answers_always}
use Rattle.tree_rows.proofs.PruneLemmas.{place_found, place_missing}
use Rattle.tree_rows.proofs.row.place_among_nodes.Goals as goal

pub returns-in-Ok : goal.returns-in-Ok
returns-in-Ok c =
    let by_key = c.in-Ok.ensures.position (λ node. node.number) (answers_always _ _ _ (λ f a r g called. search rules)) in
    let nodes = c.args.nodes.now in
    let within : c.in-Ok.place < length nodes.items = omega (arith, c.in-Ok.ensures.bound, nodes.ok.0) in
    (within, place_found nodes.items c.args.number c.in-Ok.place within by_key)

pub returns-in-Err : goal.returns-in-Err
returns-in-Err c =
    let by_key = c.in-Err.ensures.position (λ node. node.number) (answers_always _ _ _ (λ f a r g called. search rules)) in
    let nodes = c.args.nodes.now in
    place_missing nodes.items c.args.number _ c.requires (omega (arith, c.in-Err.ensures.bound, nodes.ok.0)) by_key
