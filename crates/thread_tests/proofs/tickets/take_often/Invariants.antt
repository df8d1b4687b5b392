use Rattle.ready_queue.specs.Passes.{IsSamePass}
use Rattle.thread_tests.proofs.tickets.take_often.Given as goal

abbrev pub invariant-loop : goal.invariant-loop
invariant-loop g l = IsSamePass l.initial.pass l.pass
