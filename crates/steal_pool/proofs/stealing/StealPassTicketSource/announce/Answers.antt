use Rattle.std.proofs.Common.{arith}
use Rattle.steal_pool.proofs.RuleLemmas.{may_put_own}
use Rattle.steal_pool.proofs.stealing.StealPassTicketSource.announce.Goals as goal

pub put-requires-clause-kept : goal.put-requires-clause-kept
put-requires-clause-kept g c =
    let same = c.requires.belongs in
    let exists = c.requires.exists in
    may_put_own c.args.self.now c.args.actor (omega arith)
