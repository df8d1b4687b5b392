use Rattle.ready_queue.proofs.RuleLemmas.{may_take_own}
use Rattle.thread_tests.proofs.tickets.take_ticket.Goals as goal

pub take-requires-clause-kept : goal.take-requires-clause-kept
take-requires-clause-kept g c = may_take_own c.args.pass.now
