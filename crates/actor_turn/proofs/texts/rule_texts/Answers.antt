use Rattle.fair_semantics.specs.Fits.{RuleFits}
use Rattle.fair_semantics.proofs.ListLemmas.{each_more, each_all}
use Rattle.actor_turn.proofs.texts.rule_texts.Goals as goal

pub loop-rule-preserved : goal.loop-rule-preserved
loop-rule-preserved c =
    each_more RuleFits c.as_slice-rule-items.result.now c.loop-rule.rule-index c.rule-item.result c.loop-rule-test.true c.rule-item.is c.body_texts.ensures c.loop-rule.invariant

pub returns : goal.returns
returns c = each_all RuleFits c.as_slice-rule-items.result.now c.args.rules.now c.loop-rule.rule-index c.loop-rule-test.false c.as_slice-rule-items.ensures.same c.loop-rule.invariant
