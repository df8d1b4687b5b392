use Rattle.std.proofs.Common.{arith, length}
use Rattle.actor_tests.proofs.asked.a_worker_answers.Goals as goal

pub run_with-made-requires-clause-workers : goal.run_with-made-requires-clause-workers
run_with-made-requires-clause-workers g c κs within = omega (arith, c.in_ok-workers.ensures.count)

pub run_with-made-requires-clause-ready : goal.run_with-made-requires-clause-ready
run_with-made-requires-clause-ready g c κs within = λ k worker lt. record { source = tt; opening = c.in_ok-workers.ensures.opening k worker lt }
