use Rattle.std.proofs.Common.{◌∙◌, ap, arith, sym, List, ◌∷◌, ◌++◌, [], map}
use Rattle.std.proofs.lemmas.List.{length-append}
use Rattle.join_base.specs.declared.message.Source.TheVariants.{Feed}
use Rattle.cell_links.specs.declared.ends.Outward.{Outward}
use Rattle.pool_settling.specs.Flat.{fed_from, sender_of}
use Rattle.pool_settling.proofs.FlatLemmas.{fed_from-push, grown}
use Rattle.pool_settling.proofs.apart.take_posters.Goals as goal

pub loop-poster-preserved : goal.loop-poster-preserved
loop-poster-preserved c =
    let before = c.loop-poster.invariant in
    let more = fed_from-push 1 c.loop-poster.number c.loop-poster.yielded c.in-Some.poster (omega (arith, before.number)) ∙ ap (λ (ws : List Outward). fed_from 1 c.loop-poster.yielded ++ map (sender_of (Feed c.loop-poster.number)) ws) (sym c.into_links.ensures) in
    record {
      number = omega (arith, before.number, length-append c.loop-poster.yielded (c.in-Some.poster ∷ []));
      senders = grown _ _ _ _ _ _ c.in_ok-add_senders.ensures.added before.senders more;
    }
