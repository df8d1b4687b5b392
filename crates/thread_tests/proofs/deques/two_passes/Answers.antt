use Rattle.steal_pool.proofs.RuleLemmas.{begins, admits}
use Rattle.thread_tests.proofs.deques.two_passes.Goals as goal

pub deques-requires-clause-begins : goal.deques-requires-clause-begins
deques-requires-clause-begins c = begins

pub deques-requires-clause-admits : goal.deques-requires-clause-admits
deques-requires-clause-admits c = admits
