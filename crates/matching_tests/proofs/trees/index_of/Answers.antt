use Rattle.std.proofs.Common.{arith}
use Rattle.matching_tests.proofs.IndexLemmas.{more_indexed}
use Rattle.matching_tests.proofs.trees.index_of.Goals as goal

pub loop-place-init : goal.loop-place-init
loop-place-init c = λ number recorded up. absurd (omega (arith, recorded.0, up))

pub loop-place-preserved : goal.loop-place-preserved
loop-place-preserved c = more_indexed c.loop-place.index c.insert.new.self c.args.messages.now c.loop-place.place c.insert.ensures.fields c.insert.ensures.keeps c.in_ok-insert.ensures.has c.loop-place.invariant

pub returns : goal.returns
returns c = λ number recorded. c.loop-place.invariant number recorded (omega (arith, recorded.1, c.loop-place-test.false))
