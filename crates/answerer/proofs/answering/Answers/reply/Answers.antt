use Rattle.std.proofs.Common.{◌∷◌, [], subst}
use Rattle.join_base.specs.declared.message.Value.{Value}
use Rattle.fair_semantics.specs.declared.run.Effect.TheVariants.{Reply}
use Rattle.answerer.specs.Answered.{Answered}
use Rattle.answerer.proofs.AnsweredLemmas.{answered_by}
use Rattle.answerer.proofs.answering.Answers.reply.Goals as goal

pub returns-in_ok-value-in-Some-clause-answered : goal.returns-in_ok-value-in-Some-clause-answered
returns-in_ok-value-in-Some-clause-answered c =
    subst (λ (v : Value). Answered c.args.asks.now (Reply c.args.number v ∷ []) c.args.self.now c.give.new.self) c.in_ok-value-in-Some.ensures.equal
    (answered_by c.args.asks.now c.args.number c.in_ok-value-in-Some.value c.in-Some.ask c.args.self.now c.give.new.self c.in-Some.ensures.some.0 c.give.ensures.gives)
