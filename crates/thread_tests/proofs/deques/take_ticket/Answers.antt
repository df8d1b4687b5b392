use Rattle.steal_pool.proofs.RuleLemmas.{may_take_any}
use Rattle.thread_tests.proofs.deques.take_ticket.Goals as goal

pub take-requires : goal.take-requires
take-requires g c = record { kept = may_take_any c.args.pass.now }
