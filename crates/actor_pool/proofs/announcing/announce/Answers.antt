use Rattle.std.proofs.Common.{arith}
use Rattle.ready_queue.proofs.RuleLemmas.{may_put_own}
use Rattle.actor_pool.proofs.announcing.announce.Goals as goal

pub put-requires-clause-kept : goal.put-requires-clause-kept
put-requires-clause-kept g c =
    let same = c.args.pool.now.ticketed in
    let exists = c.requires.exists in
    may_put_own c.args.pool.now.tickets c.args.helper.now.pass c.args.actor (omega (arith, same, exists))
