use Rattle.std.proofs.Common.{take}
use Rattle.answerer.specs.Answered.{Answered, AreTried}
use Rattle.answerer.proofs.answering.Answers.answer_effects.Given as goal

-- the effects so far
abbrev pub invariant-loop-effect : goal.invariant-loop-effect
invariant-loop-effect l = record {
  answered : Answered l.asks (take l.effect-index l.effects) l.fn.self l.self;
  tried : AreTried l.asks (take l.effect-index l.effects) l.self;
}
