use Rattle.steal_pool.proofs.RuleLemmas.{may_put_own}
use Rattle.thread_tests.proofs.deques.put_ticket.Goals as goal

pub put-requires-clause-kept : goal.put-requires-clause-kept
put-requires-clause-kept c = may_put_own c.args.pass.now c.args.actor c.requires.exists
