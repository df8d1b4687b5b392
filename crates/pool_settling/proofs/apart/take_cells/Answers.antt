use Rattle.std.proofs.Common.{arith, ◌∷◌, [], ◌++◌, ◌∙◌, ap}
use Rattle.std.proofs.lemmas.List.{length-append, map-append}
use Rattle.actor_turn.specs.Held.{Held}
use Rattle.actor_cells.specs.Lawful.{held_in}
use Rattle.pool_settling.proofs.FlatLemmas.{senders_from-push, receivers_from-push, grown}
use Rattle.pool_settling.proofs.apart.take_cells.Goals as goal

pub loop-cell-preserved : goal.loop-cell-preserved
loop-cell-preserved c =
    let before = c.loop-cell.invariant in
    let n = c.loop-cell.number in
    let ys = c.loop-cell.yielded in
    let one = c.in-Some.cell in
    record {
      number = omega (arith, before.number, length-append ys (one ∷ []));
      senders = grown _ _ _ _ _ _ c.in_ok-add_senders.ensures.added before.senders (senders_from-push 0 n ys one (omega (arith, before.number)));
      receivers = grown _ _ _ _ _ _ c.in_ok-add_receivers.ensures.added before.receivers (receivers_from-push 0 n ys one (omega (arith, before.number)));
      actors = grown _ _ _ _ _ _ (c.in_ok-push.ensures.items ∙ ap (λ (held : Held). c.loop-cell.actors.items ++ held ∷ []) c.into_inner.ensures) before.actors (map-append held_in ys (one ∷ []));
    }
