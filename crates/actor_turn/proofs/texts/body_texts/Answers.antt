use Rattle.fair_semantics.specs.Fits.{StatementFits}
use Rattle.fair_semantics.proofs.ListLemmas.{each_more, each_all}
use Rattle.actor_turn.proofs.texts.body_texts.Goals as goal

pub loop-statement-preserved : goal.loop-statement-preserved
loop-statement-preserved c =
    each_more StatementFits c.as_slice-statement-items.result.now c.loop-statement.statement-index c.statement-item.result c.loop-statement-test.true c.statement-item.is c.statement_texts.ensures c.loop-statement.invariant

pub returns : goal.returns
returns c = each_all StatementFits c.as_slice-statement-items.result.now c.args.body.now c.loop-statement.statement-index c.loop-statement-test.false c.as_slice-statement-items.ensures.same c.loop-statement.invariant
