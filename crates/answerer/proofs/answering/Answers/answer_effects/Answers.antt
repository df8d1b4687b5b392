use Rattle.answerer.proofs.AnsweredLemmas.{effect_step, effect_tried, effects_stopped}
use Rattle.answerer.proofs.answering.Answers.answer_effects.Goals as goal

pub returns-in_err-answer_effect-clause-answered :
    goal.returns-in_err-answer_effect-clause-answered
returns-in_err-answer_effect-clause-answered c =
    effects_stopped c.args.asks.now c.args.effects.now c.loop-effect.effect-index c.effect-item.result c.args.self.now c.loop-effect.self c.answer_effect.new.self c.loop-effect-test.true c.effect-item.is c.loop-effect.invariant.answered c.answer_effect.ensures.answered

pub loop-effect-preserved : goal.loop-effect-preserved
loop-effect-preserved c = record {
  answered = effect_step c.args.asks.now c.args.effects.now c.loop-effect.effect-index c.effect-item.result c.args.self.now c.loop-effect.self c.answer_effect.new.self c.loop-effect-test.true c.effect-item.is c.loop-effect.invariant.answered c.answer_effect.ensures.answered;
  tried = effect_tried c.args.asks.now c.args.effects.now c.loop-effect.effect-index c.effect-item.result c.loop-effect.self c.answer_effect.new.self c.loop-effect-test.true c.effect-item.is c.answer_effect.ensures.answered c.loop-effect.invariant.tried c.in_ok-answer_effect.ensures.tried;
}
