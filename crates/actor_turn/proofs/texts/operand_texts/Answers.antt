use Rattle.fair_semantics.specs.Fits.{OperandFits}
use Rattle.fair_semantics.proofs.ListLemmas.{each_more, each_all}
use Rattle.actor_turn.proofs.texts.operand_texts.Goals as goal

pub loop-operand-preserved : goal.loop-operand-preserved
loop-operand-preserved c =
    each_more OperandFits c.as_slice-operand-items.result.now c.loop-operand.operand-index c.operand-item.result c.loop-operand-test.true c.operand-item.is c.operand_text.ensures c.loop-operand.invariant

pub returns : goal.returns
returns c = each_all OperandFits c.as_slice-operand-items.result.now c.args.operands.now c.loop-operand.operand-index c.loop-operand-test.false c.as_slice-operand-items.ensures.same c.loop-operand.invariant
