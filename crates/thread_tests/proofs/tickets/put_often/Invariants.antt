use Rattle.ready_queue.specs.Passes.{IsSamePass}
use Rattle.thread_tests.proofs.tickets.put_often.Given as goal

abbrev pub invariant-loop-turn : goal.invariant-loop-turn
invariant-loop-turn g l = IsSamePass l.initial.pass l.pass
