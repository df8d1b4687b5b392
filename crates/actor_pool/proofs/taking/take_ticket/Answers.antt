use Rattle.ready_queue.proofs.RuleLemmas.{may_take_own}
use Rattle.actor_pool.proofs.taking.take_ticket.Goals as goal

pub take-requires-clause-kept : goal.take-requires-clause-kept
take-requires-clause-kept g c = may_take_own c.args.helper.now.pass
