use Rattle.std.proofs.Common.{arith, refl, ap, ◌∙◌, ◌∷◌, [], map}
use Rattle.std.proofs.lemmas.List.{length-append}
use Rattle.actor_cells.specs.Lawful.{held_in}
use Rattle.actor_cells.proofs.PrepareLemmas.{actors-more, coming, going, inward_of, mapped-more, outward_of, texts-more}
use Rattle.actor_cells.proofs.opening.opening_cells.Goals as goal

pub loop-own-preserved : goal.loop-own-preserved
loop-own-preserved c =
    let before = c.loop-own.invariant in
    let ys = c.loop-own.yielded in
    let one = c.in-Some.own in
    let items = c.in_ok-push.ensures.items in
    let made = c.loop-own.cells.items in
    record {
      index = omega (arith, before.index, length-append ys (one ∷ []));
      actors = ap (map held_in) items ∙ actors-more c.args.plan.now c.args.limits c.args.feeds c.loop-own.index made _ before.actors (c.in_ok-new.ensures.ok ∙ c.in_ok-actor.ensures.opening);
      inward = ap (map inward_of) items ∙ mapped-more inward_of coming made ys _ one before.inward refl;
      outward = ap (map outward_of) items ∙ mapped-more outward_of going made ys _ one before.outward refl;
      texts = texts-more c.args.plan.now c.args.limits c.loop-own.index before.texts c.in_ok-actor.ensures.texts;
    }
