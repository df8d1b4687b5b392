use Rattle.ready_queue.proofs.RuleLemmas.{may_put_own}
use Rattle.thread_tests.proofs.tickets.put_ticket.Goals as goal

pub put-requires-clause-kept : goal.put-requires-clause-kept
put-requires-clause-kept g c = may_put_own c.args.tickets.now c.args.pass.now c.args.actor c.requires.exists
