use Rattle.std.proofs.Common.{◌≤◌}
use Rattle.steal_pool.specs.Passes.{made_for}
use Rattle.thread_tests.proofs.deques.put_often.Given as goal

abbrev pub invariant-loop-turn : goal.invariant-loop-turn
invariant-loop-turn g l = 2 ≤ made_for l.pass
