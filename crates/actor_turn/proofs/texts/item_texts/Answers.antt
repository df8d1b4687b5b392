use Rattle.fair_semantics.specs.Fits.{ItemFits}
use Rattle.fair_semantics.proofs.ListLemmas.{each_more, each_all}
use Rattle.actor_turn.proofs.texts.item_texts.Goals as goal

pub loop-item-preserved : goal.loop-item-preserved
loop-item-preserved c =
    each_more ItemFits c.as_slice-item-items.result.now c.loop-item.item-index c.item-item.result c.loop-item-test.true c.item-item.is c.item_text.ensures c.loop-item.invariant

pub returns : goal.returns
returns c = each_all ItemFits c.as_slice-item-items.result.now c.args.items.now c.loop-item.item-index c.loop-item-test.false c.as_slice-item-items.ensures.same c.loop-item.invariant
