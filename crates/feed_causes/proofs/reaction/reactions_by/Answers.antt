use Rattle.feed_causes.proofs.ReactionLemmas.{all_found, next_found, none_found}
use Rattle.feed_causes.proofs.reaction.reactions_by.Goals as goal

pub loop-place-init : goal.loop-place-init
loop-place-init c = none_found c.args.all.now c.args.only c.new-reactions.result c.new-reactions.ensures.empty

pub loop-place-preserved : goal.loop-place-preserved
loop-place-preserved c =
    next_found c.args.all.now c.args.only c.loop-place.place c.index-all-place.result c.loop-place.reactions c.push_some.new.reactions c.in_ok-found.found c.loop-place-test.true c.index-all-place.is c.loop-place.invariant
    c.in_ok-found.ensures.found c.in_ok-push_some.ensures

pub returns : goal.returns
returns c = record { reactions = all_found c.args.all.now c.args.only c.loop-place.place c.loop-place.reactions c.loop-place-test.false c.loop-place.invariant }
